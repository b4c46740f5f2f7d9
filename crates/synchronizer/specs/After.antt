-- The state after an action that is taken: "its count then becomes i", and what the action does besides.
-- Assumes nothing.
use Rattle.std.specs.Prelude.{ℕ, ◌+◌, List, get_or, set}
use Rattle.network.specs.declared.Network.{Network}
use Rattle.nodeset.specs.Marks.{values_in}
use Rattle.laws.specs.Mean.{rule_of}
use Rattle.actions.specs.declared.Kind.{Kind}
use Rattle.actions.specs.declared.Counter.{Counter}
use Rattle.actions.specs.declared.Does.{Does}
use Rattle.actions.specs.Kinds.{cell_of, count_in}
use Rattle.actions.specs.Table.{does_of}
use Rattle.queue.specs.Queue.{packet, ack, head_of, queues, pushed, popped, slot_at, heard_in}
use Rattle.synchronizer.specs.declared.State.{State}
use Rattle.synchronizer.specs.Wires.{Wires, wires_of, lane_in}
use Rattle.synchronizer.specs.Answer.{own_in}

-- a state of its arrays
abbrev pub state_of : List ℕ → List ℕ → List ℕ → List ℕ → List ℕ → List ℕ → State
state_of counts lens sorts loads slots values =
    record { counts = counts; queues = queues lens sorts loads; slots = slots; values = values }

-- "(own value + the values in the slots of i's parity from each neighbour) divided by (1 + number of neighbours)", to the nearest whole number
unfoldable pub mean_heard : List ℕ → List ℕ → ℕ → ℕ → ℕ → ℕ → ℕ
mean_heard lanes slots neighbours p own i = rule_of own (values_in (λ q. get_or slots (slot_at (lane_in lanes q p) i) 0) neighbours)

module _ (w : Wires) where
  -- what the action does besides counting, where d is the direction from p to q and it is taken the i-th time
  unfoldable pub effect_in : Does → ℕ → ℕ → ℕ → State → State
  effect_in Does.Starts p d i s = s
  effect_in Does.Counts p d i s = s
  -- "A packet carries the value its sender has when the packet is sent"
  effect_in Does.SendsPacket p d i s = record s { queues = pushed s.queues d packet (get_or s.values p 0) }
  effect_in Does.SendsAck p d i s = record s { queues = pushed s.queues d ack 0 }
  -- "Delivery i puts it in the slot of i's parity"
  effect_in Does.TakesPacket p d i s =
      record s {
        queues = popped s.queues d;
        slots = heard_in s.slots (head_of s.queues.lens s.queues.sorts s.queues.loads d) d i;
      }
  effect_in Does.TakesAck p d i s = record s { queues = popped s.queues d }
  -- "Input i of p sets its value"
  effect_in Does.Means p d i s =
      record s { values = set s.values p (mean_heard w.lanes s.slots (get_or w.neighbours p 0) p (get_or s.values p 0) i) }

  -- "its count then becomes i"
  unfoldable pub counted : State → Counter → ℕ → State
  counted s c i = record s { counts = set s.counts (cell_of c) i }

  -- the state after the action, where it is taken
  unfoldable pub after_in : State → Kind → ℕ → ℕ → State
  after_in s k p q = effect_in (does_of k) p (lane_in w.lanes p q) i (counted s (own_in w k p q) i)
    where
      i : ℕ
      i = count_in s.counts (own_in w k p q) + 1

-- of a network
abbrev pub after_of : Network → State → Kind → ℕ → ℕ → State
after_of net = after_in (wires_of net)
