-- `turn`: what was read decides, and an action goes as `take` says.
use Rattle.std.proofs.lemmas.Result.{err_from_is_err_and}
use Rattle.synchronizer.proofs.Turns.{nothing_read, refused_turn, taken_turn}
use Rattle.synchronizer.proofs.State.turn.Goals as goal

pub returns-in_err-act : goal.returns-in_err-act
returns-in_err-act c =
    let (y, is, from) = err_from_is_err_and c.from_residual.result c.from_residual.ensures.1 in
    rw (is, from) (nothing_read _ _ _ _ _ c.in_err-act.ensures)

pub returns-in_err-take : goal.returns-in_err-take
returns-in_err-take c =
    let (y, is, from) = err_from_is_err_and c.from_residual-in_err-take.result c.from_residual-in_err-take.ensures.1 in
    rw (is, from) (refused_turn _ _ _ _ _ c.in_ok-act.ensures _ _ c.in_err-take.ensures)

pub returns : goal.returns
returns c = taken_turn _ _ _ _ _ c.in_ok-act.ensures _ c.in_ok-take.ensures
