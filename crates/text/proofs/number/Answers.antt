-- `number`: std's digits are `decimal`'s.
use Rattle.text.proofs.Std.{same_decimal}
use Rattle.text.proofs.number.Goals as goal
use native.Mathlib.Omega.{arith}

pub returns : goal.returns
returns c =
    rw (← same_decimal c.args.n (omega arith), ← c.format.ensures.text, ← c.as_bytes.ensures.value) c.word.ensures
