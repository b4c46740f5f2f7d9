-- `answer`: the tests are the definition's, in its order.
use native.Mathlib.Omega.{arith}
use Rattle.std.proofs.lemmas.Bool.Decides.{nat_tests}
use Rattle.laws.specs.Choice.{if_b, if_lt}
use Rattle.lockstep.specs.Table.{table_number}
use Rattle.lockstep.proofs.answer.Goals as goal

pub returns-then-not-valid : goal.returns-then-not-valid
unfolding table_number if_b if_lt
returns-then-not-valid c = grind (arith, nat_tests)

pub returns-then-net-rounds : goal.returns-then-net-rounds
unfolding table_number if_b if_lt
returns-then-net-rounds c = grind (arith, nat_tests)

pub returns-then-room-net : goal.returns-then-room-net
unfolding table_number if_b if_lt
returns-then-room-net c = grind (arith, nat_tests)

pub returns-else-room-net : goal.returns-else-room-net
unfolding table_number if_b if_lt
returns-else-room-net c = grind (arith, nat_tests)
