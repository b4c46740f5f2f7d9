-- `copy`: the bytes before this one are copied, and the rest of the buffer is as it was.
use mathlib.Core.Path.{◌≡◌}
use Rattle.layout.specs.Layout.{copied}
use Rattle.layout.proofs.copy.Given as goal

abbrev pub invariant-loop-at : goal.invariant-loop-at
invariant-loop-at l = l.out ≡ copied l.bytes l.at l.initial.out
