-- `line`: three writes, each where the one before it stopped.
use Rattle.text.specs.Lines.{line}
use Rattle.text.proofs.Put.{put_then}
use Rattle.text.proofs.line.Goals as goal

pub returns : goal.returns
unfolding line
returns c =
    put_then (put_then c.word-named.ensures c.fields_of-filled.ensures) c.byte.ensures
