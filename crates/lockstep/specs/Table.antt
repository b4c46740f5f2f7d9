-- The table that is asked for: which answer it gets, and what its buffer holds afterwards.
-- Assumes nothing.
use Rattle.std.specs.Prelude.{ℕ, List, length, get_or}
use Rattle.laws.specs.Choice.{if_b, if_lt, if_eq}
use Rattle.laws.specs.Below.{over_below}
use Rattle.network.specs.declared.Network.{Network}
use Rattle.network.specs.Valid.{valid_network}
use Rattle.lockstep.specs.Rounds.{lockstep_of}

-- "Table order: 17, 20, 21": "handed-in network .. outside the ranges", "table asked for more rounds than the plan's", "table buffer shorter
-- than the node count"; 0 where it is accepted
unfoldable pub table_number : Network → ℕ → ℕ → ℕ
table_number net rounds room = if_b (valid_network net) (if_lt net.rounds rounds 20 (if_lt room net.nodes 21 0)) 17

-- the buffer afterwards: where the table is accepted, each node's value after so many rounds, and "entries past the node count are not written";
-- where it is refused, all as before
unfoldable pub table_of : Network → ℕ → List ℕ → List ℕ
table_of net rounds out =
    if_eq (table_number net rounds (length out)) 0
    (over_below (λ p. get_or (lockstep_of net rounds) p 0) net.nodes out)
    out
