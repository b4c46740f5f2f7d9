-- `lanes_of`: after l turns the table has the directions of the first l links.
use mathlib.Core.Path.{◌≡◌}
use Rattle.synchronizer.specs.Wires.{lanes_of}
use Rattle.synchronizer.proofs.wires.lanes_of.Given as goal

abbrev pub invariant-loop-l : goal.invariant-loop-l
invariant-loop-l l = l.lanes ≡ lanes_of l.lowers l.uppers l.l
