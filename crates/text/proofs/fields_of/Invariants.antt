-- `fields_of`: after each turn one more of the fields is written, and the place is the one behind it.
use lib.ListN.{take}
use Rattle.text.specs.Lines.{fields}
use Rattle.text.specs.Put.{Put}
use Rattle.text.proofs.fields_of.Given as goal

abbrev pub invariant-loop-n : goal.invariant-loop-n
invariant-loop-n l = Put l.initial.out l.at (fields (take l.n-index l.numbers)) l.place l.out
