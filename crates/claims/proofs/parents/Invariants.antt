-- `parents`: after i steps the claims are the fold over the first i.
use mathlib.Core.Path.{◌≡◌}
use Rattle.laws.specs.Below.{fold_below}
use Rattle.claims.specs.Claiming.{nobody, step}
use Rattle.claims.proofs.parents.Given as goal

abbrev pub invariant-loop-i : goal.invariant-loop-i
invariant-loop-i l = l.claims ≡ fold_below (step l.sets l.depth) (nobody l.count) l.i
