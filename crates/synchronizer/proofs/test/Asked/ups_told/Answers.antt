-- `ups_told`: the words of the children, and then those of the preferred links.
use mathlib.Core.Path.{refl, sym, ◌∙◌, ap}
use Rattle.laws.specs.Choice.{if_b}
use Rattle.laws.proofs.Choice.{both_on, both_off}
use Rattle.synchronizer.proofs.test.Asked.ups_told.Goals as goal
use Rattle.synchronizer.proofs.test.Asked.ups_told.Goals.{then-children_have, else-children_have}

pub returns : goal.returns
returns c =
    rw (← c.preferred-links.ensures)
    (elim c.if-children_have.branch [
      | then-children_have w ↦ c.unless.ensures
          ∙ ap (λ b. if_b b 0 16) (w.unless-is ∙ both_on _ _ _ (sym c.children_have.ensures ∙ w.if-children_have.true) w.senders_have.ensures)
      | else-children_have w ↦ c.unless.ensures
          ∙ ap (λ b. if_b b 0 16) (w.unless-is ∙ w.if-children_have.false ∙ both_off _ _ _ (sym c.children_have.ensures ∙ w.if-children_have.false) refl)
    ])
