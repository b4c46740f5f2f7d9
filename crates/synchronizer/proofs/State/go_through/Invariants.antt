-- `go_through`: on its way the list has turns left that lead where the whole list does; a refusal or the end of the bytes is where they lead.
use Prim.Native.Nat.{◌-◌}
use mathlib.Core.Path.{◌≡◌}
use lib.ListN.{length}
use Rattle.std.specs.Prelude.{Ok}
use Rattle.synchronizer.proofs.Turns.{Going}
use Rattle.synchronizer.proofs.State.go_through.Given as goal

abbrev pub invariant-loop-ended : goal.invariant-loop-ended
invariant-loop-ended l = (l.ended.outcome ≡ Ok tt) × Going l.wires l.initial.self l.bytes l.self l.ended.place l.ended.taken

abbrev pub decreases-loop-ended : goal.decreases-loop-ended
decreases-loop-ended l = length l.bytes - l.ended.place
