-- `places`: after each turn both places of one more queue are written.
use Prim.Native.Nat.{◌*◌, ◌/◌, ◌%◌}
use mathlib.Core.Path.{◌≡◌}
use lib.ListN.{get_or, replicate}
use Rattle.laws.specs.Choice.{if_lt}
use Rattle.laws.specs.Below.{over_below}
use Rattle.ranges.proofs.places.Given as goal

abbrev pub invariant-loop-d : goal.invariant-loop-d
invariant-loop-d l =
    l.places ≡ over_below (λ e. if_lt (e % 2) (get_or l.lens (e / 2) 0) 1 0) (l.d * 2) (replicate 512 0)
