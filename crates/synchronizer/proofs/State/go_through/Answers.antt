-- `go_through`: a turn that takes its record leads one record on; one that does not is where the list stops.
use Prim.Native.Nat.{◌+◌, ◌<◌, ◌≤◌}
use native.Mathlib.Omega.{arith}
use mathlib.Core.Path.{refl}
use lib.ListN.{length}
use Rattle.synchronizer.proofs.Turns.{some_number, turn_moves, going_start, going_on, going_stops, going_ends}
use Rattle.synchronizer.proofs.State.go_through.Goals as goal

pub loop-ended-init : goal.loop-ended-init
loop-ended-init c = (refl, going_start _ _ _)

pub overflow_add-ended : goal.overflow_add-ended
overflow_add-ended c =
    let moves : (1 < c.in-Ok.width) × (c.loop-ended.ended.place + c.in-Ok.width ≤ length c.args.bytes.now) = turn_moves _ _ _ _ _ c.in-Ok.ensures refl in
    omega arith

pub returns-in-Err : goal.returns-in-Err
returns-in-Err c = going_stops _ _ _ _ _ _ _ c.loop-ended.invariant.1 c.loop-ended-test.true c.in-Err.ensures (some_number _)

pub loop-ended-smaller : goal.loop-ended-smaller
loop-ended-smaller c =
    let moves : (1 < c.in-Ok.width) × (c.loop-ended.ended.place + c.in-Ok.width ≤ length c.args.bytes.now) = turn_moves _ _ _ _ _ c.in-Ok.ensures refl in
    omega arith

pub loop-ended-preserved : goal.loop-ended-preserved
loop-ended-preserved c =
    (c.loop-ended.invariant.0, going_on _ _ _ _ _ _ _ c.loop-ended.invariant.1 c.loop-ended-test.true c.in-Ok.ensures refl)

pub returns : goal.returns
returns c = rw c.loop-ended.invariant.0 (going_ends _ _ _ _ _ _ c.loop-ended.invariant.1 c.loop-ended-test.false)
