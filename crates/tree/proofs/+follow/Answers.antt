-- `follow`: each way out of a turn is one of the definition's, and the walk goes on from the parent with one step fewer.
use Rattle.std.proofs.Common.{sym, ◌∙◌, ap₂, arith}
use Rattle.tree.specs.Climb.{root_from}
use Rattle.tree.proofs.Turn.{no_node, at_root, no_steps_left, to_parent}
use Rattle.tree.proofs.+follow.Goals as goal

pub returns-in_err-parent : goal.returns-in_err-parent
returns-in_err-parent t c =
    c.from_residual.ensures ∙ sym (no_node _ _ _ _ c.in_err-parent.ensures.lookup.3)

pub returns-then-parent-p : goal.returns-then-parent-p
returns-then-parent-p t c =
    let (node, parent) = c.in_ok-parent.ensures.lookup.3 in
    sym (at_root _ _ _ _ node (sym (parent 0) ∙ c.if-parent-p.true))

pub returns-in_err-checked_sub : goal.returns-in_err-checked_sub
returns-in_err-checked_sub t c =
    let (node, parent) = c.in_ok-parent.ensures.lookup.3 in
    c.from_residual-in_err-checked_sub.ensures
    ∙ sym (no_steps_left _ _ _ _ node (λ e. c.if-parent-p.false (parent 0 ∙ e)) (omega (arith, c.in_err-checked_sub.ensures)))

pub returns : goal.returns
returns t c =
    let (node, parent) = c.in_ok-parent.ensures.lookup.3 in
    let (some, fewer) = c.in_ok-checked_sub.ensures in
    c.follow.ensures
    ∙ ap₂ (root_from _ _) fewer (parent 0)
    ∙ sym (to_parent _ _ _ _ node (λ e. c.if-parent-p.false (parent 0 ∙ e)) (λ none. omega (arith, some)))
