-- `copy`: once all bytes are copied there is no rest.
use native.Mathlib.Omega.{arith}
use mathlib.Core.Path.{refl, sym, ◌∙◌, ap₂}
use mathlib.Core.List.{◌++◌}
use Rattle.std.proofs.lemmas.List.{take_all, append-nil}
use Rattle.std.proofs.Math.ListN.{drop_of_length-le}
use Rattle.laws.proofs.Below.{over_start, over_more}
use Rattle.layout.specs.Layout.{copied}
use Rattle.layout.proofs.Bytes.{copied_is}
use Rattle.layout.proofs.copy.Goals as goal

pub loop-at-init : goal.loop-at-init
unfolding copied
loop-at-init c = sym (over_start _ _)

pub loop-at-preserved : goal.loop-at-preserved
unfolding copied
loop-at-preserved c = over_more _ _ _ _ _ c.loop-at.invariant refl

pub returns : goal.returns
returns c =
    let s = c.args.bytes.now in
    let out = c.args.out.now in
    c.loop-at.invariant
    ∙ copied_is s c.loop-at.at out (omega arith) (omega arith)
    ∙ ap₂ (λ x y. x ++ y) (take_all c.loop-at.at s (omega arith)) (drop_of_length-le out (omega arith))
    ∙ append-nil s
