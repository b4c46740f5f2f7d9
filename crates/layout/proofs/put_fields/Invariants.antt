-- `put_fields`: the fields before this one are written, each at its place.
use mathlib.Core.Path.{◌≡◌}
use Rattle.layout.specs.Layout.{with_fields}
use Rattle.layout.proofs.put_fields.Given as goal

abbrev pub invariant-loop-k : goal.invariant-loop-k
invariant-loop-k l = l.out ≡ with_fields l.fields l.k l.at l.width l.initial.out
