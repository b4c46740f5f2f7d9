-- `link_fits`: the tests are the definition's.
use borrow.Author.Rules.{rules}
use native.Mathlib.Omega.{arith}
use Rattle.std.proofs.lemmas.Bool.Decides.{nat_tests}
use Rattle.laws.specs.Choice.{both, if_b}
use Rattle.laws.proofs.Choice.{picks, tests}
use Rattle.network.specs.Valid.{link_fits}
use Rattle.network.proofs.link_fits.Goals as goal

pub returns-then-b-nodes : goal.returns-then-b-nodes
unfolding link_fits
returns-then-b-nodes c = search (rules, picks, tests)

pub returns-else-b-nodes : goal.returns-else-b-nodes
unfolding link_fits both if_b
returns-else-b-nodes c = grind (arith, nat_tests)
