-- What a buffer holds after text was written into it from a place on, and where the next text goes.
-- Assumes nothing.
use Rattle.std.specs.Prelude.{ℕ, ◌+◌, min, max, ◌≡◌, List, length}
use Rattle.std.proofs.lemmas.List.Edits.{sets}

-- the buffer with the text from the place on, one byte set after the other; past the end of the buffer nothing is set, and the rest is as before
unfoldable pub with_text : List ℕ → ℕ → List ℕ → List ℕ
with_text out at text = sets out at text

-- the text was written into the buffer `before` at the place, and `next` and `after` are the place and the buffer afterwards
pub record Put (before : List ℕ) (at : ℕ) (text : List ℕ) (next : ℕ) (after : List ℕ) : Type 0 where
  -- as far as there is room, and never back
  pub place : next ≡ max at (min (at + length text) (length before))
  pub held : after ≡ with_text before at text
