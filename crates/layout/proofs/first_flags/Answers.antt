use Prim.Native.Nat.{◌+◌, ◌<◌}
use native.Mathlib.Omega.{arith}
use mathlib.Core.Path.{sym, ◌∙◌, ap₂, subst}
use Rattle.laws.proofs.Below.{over_start, over_more, over_end}
use Rattle.layout.specs.Layout.{flag_by, met_with, first_flags}
use Rattle.layout.proofs.Flags.{Met, met_start, met_more, flag_is}
use Rattle.layout.proofs.first_flags.Goals as goal

pub loop-l-init : goal.loop-l-init
loop-l-init c = (met_start _ _, sym (over_start _ _))

pub flag-requires : goal.flag-requires
flag-requires c =
    let within = c.requires c.loop-l.l (omega arith) in
    (subst (λ x. x < 64) (sym c.root_at-x.ensures) within.0, subst (λ x. x < 64) (sym c.root_at-y.ensures) within.1)

pub loop-l-preserved : goal.loop-l-preserved
loop-l-preserved c =
    let loop = c.loop-l in
    let within = c.requires loop.l (omega arith) in
    let x = c.root_at-x.ensures in
    let y = c.root_at-y.ensures in (
      subst (Met _ _ (loop.l + 1)) (sym (c.flag.ensures.1 ∙ ap₂ (met_with loop.met) x y)) (met_more _ _ loop.invariant.0 within.0 within.1),
      over_more _ _ _ _ _ loop.invariant.1 (c.flag.ensures.0 ∙ ap₂ (flag_by loop.met) x y ∙ flag_is _ _ loop.invariant.0 within.0),
    )

pub returns : goal.returns
unfolding first_flags
returns c = over_end _ _ _ _ _ c.loop-l.invariant.1 (omega arith) (omega arith)
