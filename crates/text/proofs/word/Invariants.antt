-- `word`: after each turn one more of the bytes is written, and the place is the one behind it.
use lib.ListN.{take}
use Rattle.text.specs.Put.{Put}
use Rattle.text.proofs.word.Given as goal

abbrev pub invariant-loop-b : goal.invariant-loop-b
invariant-loop-b l = Put l.initial.out l.at (take l.b-index l.bytes) l.place l.out
