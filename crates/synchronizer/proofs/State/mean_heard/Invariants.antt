-- `mean_heard`: at every node passed stands what p heard from it.
use Prim.Native.Nat.{ℕ}
use mathlib.Core.Path.{◌≡◌}
use mathlib.Core.List.{List}
use lib.ListN.{length, get_or}
use Rattle.queue.specs.Queue.{slot_at}
use Rattle.nodeset.proofs.Walks.{Filled}
use Rattle.synchronizer.specs.Wires.{lane_in}
use Rattle.synchronizer.proofs.State.mean_heard.Given as goal

abbrev pub slot_from : List ℕ → List ℕ → ℕ → ℕ → ℕ → ℕ
slot_from slots lanes p i q = get_or slots (slot_at (lane_in lanes q p) i) 0

abbrev pub invariant-loop-q : goal.invariant-loop-q
invariant-loop-q l = (length l.heard ≡ 64) × Filled (slot_from l.self.slots l.wires.lanes l.p l.i) l.set.marks l.q-iterator l.heard
