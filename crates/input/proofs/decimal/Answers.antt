-- `decimal`: each turn reads one digit more of the number.
-- Assumes nothing.
use Rattle.std.proofs.Common.{arith, sym, ◌∙◌}
use borrow.Author.Tests.{eqb-true, eqb-false}
use lib.ListN.{length}
use Rattle.input.proofs.Digits.{read_none, empty_none, one_more, no_more, read_whole}
use Rattle.input.proofs.decimal.Goals as goal

pub returns-then-is_empty : goal.returns-then-is_empty
returns-then-is_empty c = empty_none c.args.bytes.now (eqb-true _ 0 (sym c.if-is_empty.ensures))

pub loop-byte-init : goal.loop-byte-init
loop-byte-init c = read_none c.args.bytes.now

pub loop-byte-preserved : goal.loop-byte-preserved
loop-byte-preserved c = let at = c.loop-byte in
    one_more c.args.bytes.now at.byte-index at.number at.invariant c.loop-byte-test.true c.in_ok-number.number (sym c.with_digit.ensures ∙ c.in_ok-number.was)

pub returns-in_err-number : goal.returns-in_err-number
returns-in_err-number c =
    let at = c.loop-byte in
    c.from_residual.ensures
    ∙ no_more c.args.bytes.now at.byte-index at.number at.invariant c.loop-byte-test.true (sym c.with_digit.ensures ∙ c.in_err-number.was)

pub returns : goal.returns
returns c =
    let at = c.loop-byte in
    read_whole c.args.bytes.now at.byte-index at.number at.invariant (omega (arith, eqb-false (length c.args.bytes.now) 0 (sym c.if-is_empty.ensures))) (omega arith)
