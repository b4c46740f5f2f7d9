-- `pair_rises`: the order of pairs is the definition's.
use native.Mathlib.Omega.{arith}
use Rattle.std.proofs.lemmas.Bool.Decides.{nat_tests}
use mathlib.Core.Path.{◌∙◌}
use Rattle.laws.specs.Choice.{if_lt, if_eq, if_b}
use Rattle.network.specs.Valid.{rises}
use Rattle.network.proofs.pair_rises.Goals as goal

pub returns : goal.returns
unfolding rises if_lt if_eq if_b
returns c = c.lt.ensures ∙ grind (arith, nat_tests)
