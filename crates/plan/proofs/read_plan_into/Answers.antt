-- `read_plan_into`: a refusal by a record is handed on as it came, with the zeros that stand in what is lent; a plan whose records keep the rules is
-- looked at as a whole, with its sets filled.
use mathlib.Core.Path.{sym, ◌∙◌, ap}
use Rattle.std.proofs.lemmas.Result.{err_from_is_err_and}
use Rattle.records.specs.Planned.{planned_of}
use Rattle.records.proofs.Turns.{refusal_is_no_0}
use Rattle.plan.proofs.Answers.{listed_is_checked, refused_stays}
use Rattle.plan.proofs.read_plan_into.Goals as goal

pub returns-in_err-lists-clause-answer : goal.returns-in_err-lists-clause-answer
returns-in_err-lists-clause-answer c =
    let p = err_from_is_err_and c.from_residual.result c.from_residual.ensures.1 in
    rw (p.1, p.2, c.zeros.ensures)
    (sym (refused_stays _ _ _ (sym c.read_lists.ensures ∙ ap planned_of c.in_err-lists.was) (refusal_is_no_0 _)))

pub returns-clause-answer : goal.returns-clause-answer
returns-clause-answer c =
    c.check_whole.ensures
    ∙ rw c.with_sets.ensures (sym (listed_is_checked _ _ _ (sym c.read_lists.ensures ∙ ap planned_of c.in_ok-lists.was)))
