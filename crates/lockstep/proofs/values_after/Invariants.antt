-- `values_after`: after so many turns the values are those of as many rounds.
use mathlib.Core.Path.{◌≡◌}
use Rattle.lockstep.specs.Rounds.{lockstep_of}
use Rattle.lockstep.proofs.values_after.Given as goal

abbrev pub invariant-loop : goal.invariant-loop
invariant-loop l = l.values ≡ lockstep_of l.net l.counter
