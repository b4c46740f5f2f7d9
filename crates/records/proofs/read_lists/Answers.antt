-- `read_lists`: what the lent form says, with the network handed over in the plan; a refusal has none to hand over.
use Rattle.std.proofs.Common.{rules}
use Rattle.std.proofs.lemmas.Result.{err_from_is_err_and}
use Rattle.laws.specs.Lists.{Bytes}
use Rattle.records.proofs.Answers.{refused_has_zeros}
use Rattle.records.proofs.Planned.{refused_in_both}
use Rattle.records.proofs.read_lists.Goals as goal

pub returns-in_err-taken : goal.returns-in_err-taken
returns-in_err-taken c =
    let p = err_from_is_err_and c.from_residual.result c.from_residual.ensures.1 in
    let small : Bytes c.args.bytes.now = search rules in
    rw (p.1, p.2) (refused_in_both _ _ _ (refused_has_zeros c.args.bytes.now small) c.in_err-taken.ensures)
