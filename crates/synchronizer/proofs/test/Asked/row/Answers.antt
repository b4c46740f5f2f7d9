-- `row`: one test after the other, at the cells of the two counts.
use mathlib.Core.Path.{sym, ◌∙◌, ap}
use borrow.Author.Tests.{ltb-true, ltb-false}
use Rattle.std.proofs.lemmas.Result.{err_from_is_err_and}
use Rattle.answers.specs.Numbers.{answer_of}
use Rattle.synchronizer.proofs.Rows.{not_standing, short, rest_refuses, rest_passes}
use Rattle.synchronizer.proofs.Answers.{row_at}
use Rattle.synchronizer.proofs.test.Asked.row.Goals as goal

pub returns-then-not-stands : goal.returns-then-not-stands
returns-then-not-stands c = rw (← c.stands.ensures) (not_standing _ _ _ _ _ _ _ c.if-not-stands.true)

pub returns-then-not-below : goal.returns-then-not-below
returns-then-not-below c =
    rw (← c.stands.ensures, ← c.lane.ensures)
    (row_at _ _ _ _ _ _ _ _ _ _ c.own_of-own.ensures
    (rw (← c.cell.ensures.is, ← c.cell-2.ensures.is)
    (short _ _ _ _ _ _ _ c.if-not-stands.false (ltb-false _ _ (sym c.below.ensures.0 ∙ c.if-not-below.true)))))

pub returns-in_err-rest : goal.returns-in_err-rest
returns-in_err-rest c =
    let (y, is, from) = err_from_is_err_and c.from_residual.result c.from_residual.ensures.1 in
    rw (← c.stands.ensures, ← c.lane.ensures, is, from)
    (row_at _ _ _ _ _ _ _ _ _ _ c.own_of-own.ensures
    (rw (← c.cell.ensures.is, ← c.cell-2.ensures.is)
    (rest_refuses _ _ _ _ _ _ _ c.if-not-stands.false (ltb-true _ _ (sym c.below.ensures.0 ∙ c.if-not-below.false)) _ (sym (ap answer_of c.in_err-rest.was)))))

pub returns : goal.returns
returns c =
    let room = c.below.ensures.1 c.if-not-below.false in
    rw (← c.stands.ensures, ← c.lane.ensures)
    (row_at _ _ _ _ _ _ _ _ _ _ c.own_of-own.ensures
    (rw (← c.cell.ensures.is, ← c.cell-2.ensures.is)
    (rest_passes _ _ _ _ _ _ _ c.if-not-stands.false (ltb-true _ _ (sym c.below.ensures.0 ∙ c.if-not-below.false)) (sym (ap answer_of c.in_ok-rest.was)) (rw (← c.cell.ensures.is) room))))
