-- `field`: the number is written where the blank stopped.
use Rattle.text.proofs.Put.{put_then}
use Rattle.text.proofs.Lines.{field_is}
use Rattle.text.proofs.field.Goals as goal

pub returns : goal.returns
returns c =
    rw (← field_is c.args.n)
    (put_then c.byte-place.ensures c.number.ensures)
