use Rattle.text.specs.Lines.{fields}
use Rattle.text.proofs.Put.{put_none, put_then}
use Rattle.text.proofs.Lines.{field_more}
use Rattle.text.proofs.fields_of.Goals as goal

pub loop-n-init : goal.loop-n-init
unfolding fields
loop-n-init c = put_none c.args.out.now c.args.at

pub loop-n-preserved : goal.loop-n-preserved
loop-n-preserved c =
    rw (field_more c.args.numbers.now c.loop-n.n-index c.loop-n-test.true) (put_then c.loop-n.invariant c.field-place.ensures)
