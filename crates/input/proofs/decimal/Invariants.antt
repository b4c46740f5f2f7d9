-- `decimal`: each turn reads one digit more of the number.
-- Assumes nothing.
use Rattle.input.proofs.Digits.{ReadTo}
use Rattle.input.proofs.decimal.Given as goal

abbrev pub invariant-loop-byte : goal.invariant-loop-byte
invariant-loop-byte l = ReadTo l.bytes l.byte-index l.number
