-- `sets_agree`: the tables that the lists give hold at each place what the definition gives there, so comparing the tables compares the sets.
use mathlib.Core.Path.{sym, ◌∙◌}
use Rattle.laws.proofs.Choice.{both_on, both_off, true_not_false}
use Rattle.network.proofs.Tables.{agrees_with_given}
use Rattle.network.proofs.Network.sets_agree.Goals as goal
use Rattle.network.proofs.Network.sets_agree.Goals.{then-agree, else-agree}

pub returns-then-agree-2 : goal.returns-then-agree-2
returns-then-agree-2 c =
    let neighbours = sym (agrees_with_given _ _ _ c.link_sets.ensures.0) ∙ sym c.agree.ensures in
    let preferred = c.agree-then-agree-2.ensures ∙ agrees_with_given _ _ _ c.link_sets.ensures.1 in
    elim c.if-agree.branch [
      | then-agree w ↦ both_on _ _ _ (neighbours ∙ w.if-agree.true) (both_on _ _ _ (sym (agrees_with_given _ _ _ w.child_sets.ensures) ∙ sym w.agree-then-agree.ensures ∙ sym w.value-is ∙ c.if-agree-2.true) preferred)
      | else-agree w ↦ absurd (true_not_false _ c.if-agree-2.true (w.value-is ∙ w.if-agree.false))
    ]

pub returns-else-agree-2 : goal.returns-else-agree-2
returns-else-agree-2 c =
    let neighbours = sym (agrees_with_given _ _ _ c.link_sets.ensures.0) ∙ sym c.agree.ensures in
    elim c.if-agree.branch [
      | then-agree w ↦ both_on _ _ _ (neighbours ∙ w.if-agree.true) (both_off _ _ _ (sym (agrees_with_given _ _ _ w.child_sets.ensures) ∙ sym w.agree-then-agree.ensures ∙ sym w.value-is ∙ c.if-agree-2.false) c.if-agree-2.false)
      | else-agree w ↦ both_off _ _ _ (neighbours ∙ w.if-agree.false) c.if-agree-2.false
    ]
