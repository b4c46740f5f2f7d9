-- `byte`: a place past the end leaves the buffer and the place; any other gets the byte, and the next place is the one after it.
use native.Mathlib.Omega.{arith}
use mathlib.Core.Path.{sym}
use mathlib.Core.List.{[], ◌∷◌}
use borrow.Author.Rules.{rules}
use Rattle.text.specs.Put.{with_text}
use Rattle.text.proofs.Put.{with_past_end}
use Rattle.text.proofs.byte.Goals as goal

pub returns-then-out-at : goal.returns-then-out-at
returns-then-out-at c =
    let start = c.args in
    record { place = omega arith; held = sym (with_past_end start.out.now start.at (start.b ∷ []) (omega arith)) }

pub returns : goal.returns
unfolding with_text
returns c = search rules
