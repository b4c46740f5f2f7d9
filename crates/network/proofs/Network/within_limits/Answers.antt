-- `within_limits`: each limit of document 01 is one test, in the definition's order.
use native.Mathlib.Omega.{arith}
use Rattle.std.proofs.lemmas.Bool.Decides.{nat_tests}
use Rattle.laws.specs.Choice.{both, if_b}
use Rattle.network.specs.Valid.{within_limits}
use Rattle.network.proofs.Network.within_limits.Goals as goal

pub returns-then-self-le128 : goal.returns-then-self-le128
unfolding within_limits both if_b
returns-then-self-le128 c = grind (arith, nat_tests, c.contains.ensures.cases, c.contains-then-self-le128.ensures.cases)

pub returns-else-self-le128 : goal.returns-else-self-le128
unfolding within_limits both if_b
returns-else-self-le128 c = grind (arith, nat_tests)
