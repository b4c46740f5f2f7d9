-- `teravulk_layout`: number and place are the two fields of the layout's answer.
use mathlib.Core.Path.{sym, ◌∙◌, ap}
use Rattle.layout.specs.Laid.{Laid, laid_of}
use Rattle.teravulk.proofs.teravulk_layout.Goals as goal

pub returns-in-Ok-clause-number : goal.returns-in-Ok-clause-number
returns-in-Ok-clause-number c = ap (λ r. (laid_of r).number) (sym c.in-Ok.is) ∙ ap (λ (r : Laid). r.number) c.layout.ensures.answer

pub returns-in-Ok-clause-place : goal.returns-in-Ok-clause-place
returns-in-Ok-clause-place c = ap (λ r. (laid_of r).place) (sym c.in-Ok.is) ∙ ap (λ (r : Laid). r.place) c.layout.ensures.answer

pub returns-in-Err-clause-number : goal.returns-in-Err-clause-number
returns-in-Err-clause-number c =
    c.number.ensures ∙ ap (λ r. (laid_of r).number) (sym c.in-Err.is) ∙ ap (λ (r : Laid). r.number) c.layout.ensures.answer

pub returns-in-Err-clause-place : goal.returns-in-Err-clause-place
returns-in-Err-clause-place c = ap (λ r. (laid_of r).place) (sym c.in-Err.is) ∙ ap (λ (r : Laid). r.place) c.layout.ensures.answer
