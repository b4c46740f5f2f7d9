-- `whole`: a buffer that is too short is left alone; any other gets the whole text at its start.
use native.Mathlib.Omega.{arith}
use Rattle.text.proofs.Put.{put_fits}
use Rattle.report.proofs.Pages.{no_room_lem, has_room}
use Rattle.report.proofs.whole.Goals as goal

pub returns-then-out-bytes : goal.returns-then-out-bytes
returns-then-out-bytes c =
    let start = c.args in
    let left = no_room_lem start.out.now start.bytes.now (omega arith) in
    record { count = left.0; held = left.1 }

pub returns : goal.returns
returns c =
    let start = c.args in
    let put = put_fits c.word.ensures (omega arith) in
    let there = has_room start.out.now start.bytes.now (omega arith) put.0 put.1 in
    record { count = there.0; held = there.1 }
