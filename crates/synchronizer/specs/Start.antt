-- The start state: "all counts and slots are 0, queues are empty and values are the plan's".
-- Assumes nothing.
use Rattle.std.specs.Prelude.{ℕ, ◌*◌, List, length, replicate}
use Rattle.laws.specs.Choice.{if_b}
use Rattle.network.specs.declared.Network.{Network}
use Rattle.network.specs.Valid.{valid_network}
use Rattle.actions.specs.Kinds.{kinds}
use Rattle.synchronizer.specs.declared.State.{State}
use Rattle.synchronizer.specs.declared.Done.{Done}
use Rattle.synchronizer.specs.After.{state_of}

-- nothing taken, nothing waiting, nothing heard
unfoldable pub fresh_with : List ℕ → State
fresh_with values =
    state_of (replicate (length kinds * 256) 0) (replicate 256 0) (replicate 512 0) (replicate 512 0) (replicate 512 0) values

-- "a start state refused by 17 is all zeros"
unfoldable pub start_of : Network → Done
start_of net =
    if_b (valid_network net) (record { answer = 0; state = fresh_with net.starts })
    (record { answer = 17; state = fresh_with (replicate 64 0) })
