use Rattle.std.proofs.Common.{◌≡◌, min, arith, sym, ◌∙◌, ap, ap₂}
use Rattle.laws.specs.Below.{fold_below}
use Rattle.laws.proofs.Below.{fold_start, fold_more}
use Rattle.claims.specs.Claiming.{Claiming, nobody, step, claim_all, parents_of}
use Rattle.claims.specs.Sound.{nodes_of}
use Rattle.claims.proofs.Sound.{steps_nodes}
use Rattle.claims.proofs.parents.Goals as goal

pub loop-i-init : goal.loop-i-init
loop-i-init c = c.nobody-claims.ensures ∙ sym (fold_start (step _ _) (nobody c.min-count.result))

pub step-requires : goal.step-requires
step-requires c =
    let nodes = steps_nodes c.args.sets.now c.args.depth c.min-count.result (omega (arith, c.min-count.ensures)) c.loop-i.i (omega arith) in
    omega (arith, ap nodes_of c.loop-i.invariant, nodes)

pub loop-i-preserved : goal.loop-i-preserved
loop-i-preserved c =
    let next = step c.args.sets.now c.args.depth in
    let i = c.loop-i.i in
    c.step.ensures ∙ ap (next i) c.loop-i.invariant ∙ sym (fold_more next (nobody c.min-count.result) i)

pub returns : goal.returns
unfolding parents_of claim_all
returns c =
    let end : c.loop-i.i ≡ min c.args.nodes 64 = omega (arith, c.loop-i.auto.i-end, c.loop-i-test.false, c.min-count.ensures) in
    ap (λ (s : Claiming). s.by) (c.claims.view_is ∙ c.loop-i.invariant ∙ ap₂ (λ m k. fold_below (step c.args.sets.now c.args.depth) (nobody m) k) c.min-count.ensures end)
