-- `with_digit`: by the byte, and then by whether ten times the number and the digit is held.
-- Assumes nothing.
use native.Mathlib.Omega.{arith}
use Rattle.std.proofs.lemmas.Bool.Decides.{nat_tests}
use Rattle.laws.specs.Choice.{if_b, if_lt, both}
use Rattle.input.specs.Number.{is_digit, held, with_digit}
use Rattle.input.proofs.with_digit.Goals as goal

pub returns-then-not-contains : goal.returns-then-not-contains
unfolding with_digit is_digit both if_b
returns-then-not-contains c = grind (arith, nat_tests, c.contains.ensures.cases)

pub returns-in_err-tens : goal.returns-in_err-tens
unfolding with_digit is_digit held both if_b if_lt
returns-in_err-tens c = grind (arith, nat_tests, c.contains.ensures.cases, c.in_err-tens.ensures)

pub returns : goal.returns
unfolding with_digit is_digit held both if_b if_lt
returns c = grind (arith, nat_tests, c.contains.ensures.cases, c.in_ok-tens.ensures, c.checked_add.ensures)
