-- `round`: after each turn one more node has its new value. All means are taken over the values before the round, which no turn changes.
use mathlib.Core.Path.{◌≡◌}
use Rattle.laws.specs.Below.{over_below}
use Rattle.laws.specs.Mean.{rule_of}
use Rattle.lockstep.specs.Rounds.{next_by}
use Rattle.lockstep.proofs.round.Given as goal

abbrev pub invariant-loop-p : goal.invariant-loop-p
invariant-loop-p l = l.next ≡ over_below (next_by rule_of l.net.neighbours l.values) l.p l.values
