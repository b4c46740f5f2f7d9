use Prim.Native.Nat.{ℕ, ◌+◌, ◌*◌, ◌/◌, ◌%◌}
use native.Mathlib.Omega.{arith}
use mathlib.Core.Path.{◌≡◌, sym, ◌∙◌, ap, ap₂}
use lib.ListN.{get_or, replicate, length-replicate}
use Rattle.laws.specs.Choice.{if_lt}
use Rattle.laws.specs.Below.{over_below}
use Rattle.laws.proofs.Below.{over_start, over_more, over_end, over_all}
use Rattle.ranges.proofs.Fits.{held_is}
use Rattle.ranges.proofs.places.Goals as goal

pub loop-d-init : goal.loop-d-init
loop-d-init c = sym (over_start _ _)

pub loop-d-preserved : goal.loop-d-preserved
loop-d-preserved c =
    let at = c.loop-d in
    let lens = c.args.lens.now in
    let f : ℕ → ℕ = λ e. if_lt (e % 2) (get_or lens (e / 2) 0) 1 0 in
    let first : c.from.result ≡ f (at.d * 2) = c.from.ensures ∙ held_is 0 _ ∙ ap₂ (λ (i d : ℕ). if_lt i (get_or lens d 0) 1 0) (omega arith) (omega arith) in
    let second : c.from-in-loop-d.result ≡ f (at.d * 2 + 1) = c.from-in-loop-d.ensures ∙ held_is 1 _ ∙ ap₂ (λ (i d : ℕ). if_lt i (get_or lens d 0) 1 0) (omega arith) (omega arith) in
    let next : at.d * 2 + 1 + 1 ≡ (at.d + 1) * 2 = omega arith in
    over_more f (at.d * 2 + 1) _ _ _ (over_more f (at.d * 2) _ _ _ at.invariant first) second ∙ ap (λ k. over_below f k (replicate 512 0)) next

pub returns : goal.returns
returns c =
    over_end _ 512 _ _ _ c.loop-d.invariant (omega (arith, c.loop-d.auto.d-end)) (omega (arith, c.loop-d-test.false)) ∙ over_all _ 512 _ 0 (length-replicate {A = ℕ} 512 0)
