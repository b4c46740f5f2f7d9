-- `take`: the test's answer; where it passes, the count at the cell that the test shows rises, and the effect follows.
use Prim.Native.Nat.{◌+◌, ◌<◌}
use native.Mathlib.Omega.{arith}
use mathlib.Core.Path.{ap}
use lib.ListN.{get_or}
use Rattle.std.proofs.lemmas.Result.{err_from_is_err_and}
use Rattle.synchronizer.proofs.Taking.{after_by, done_refused, done_taken, room_for_one}
use Rattle.synchronizer.proofs.State.take.Goals as goal

pub returns-in_err-sub : goal.returns-in_err-sub
returns-in_err-sub c =
    let (y, is, from) = err_from_is_err_and c.from_residual.result c.from_residual.ensures.1 in
    rw (is, from) (done_refused _ _ _ _ _ _ c.in_err-sub.ensures.answer.is)

pub overflow_add-i : goal.overflow_add-i
overflow_add-i c =
    let (at, below) = c.in_ok-sub.ensures.answer.taken in
    let room : get_or c.args.self.now.counts c.cell-own.result 0 < 65535 = room_for_one c.args.self.now.counts c.args.kind _ c.in_ok-sub.sub c.cell-own.result at c.cell-own.ensures.is below in
    omega arith

pub returns : goal.returns
returns c =
    let (at, below) = c.in_ok-sub.ensures.answer.taken in
    done_taken _ _ _ _ _ _ c.in_ok-sub.ensures.answer.is
    (after_by _ _ _ _ _ _ _ _ at (ap (λ y. get_or c.args.self.now.counts y 0 + 1) c.cell-own.ensures.is) (rw (← c.does_of.ensures, ← c.cell-own.ensures.is) c.effect.ensures))
