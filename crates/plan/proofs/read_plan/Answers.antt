-- `read_plan`: what the lent form says, with the network handed over in the plan; a refusal has none to hand over.
use Rattle.std.proofs.lemmas.Result.{err_from_is_err_and}
use Rattle.records.proofs.Planned.{refused_in_both}
use Rattle.plan.proofs.Answers.{refused_plan_has_zeros}
use Rattle.plan.proofs.read_plan.Goals as goal

pub returns-in_err-taken-clause-answer : goal.returns-in_err-taken-clause-answer
returns-in_err-taken-clause-answer c =
    let p = err_from_is_err_and c.from_residual.result c.from_residual.ensures.1 in
    rw (p.1, p.2)
    (refused_in_both _ _ _ (refused_plan_has_zeros c.args.bytes.now c.read_plan_into.ensures.small) c.in_err-taken.ensures.answer)
