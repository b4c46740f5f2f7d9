use Rattle.text.proofs.Put.{put_none, put_then}
use Rattle.text.proofs.Lines.{take_more}
use Rattle.text.proofs.word.Goals as goal

pub loop-b-init : goal.loop-b-init
loop-b-init c = put_none c.args.out.now c.args.at

pub loop-b-preserved : goal.loop-b-preserved
loop-b-preserved c =
    rw (take_more c.args.bytes.now c.loop-b.b-index c.loop-b-test.true) (put_then c.loop-b.invariant c.byte-place.ensures)
