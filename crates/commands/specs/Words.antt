-- The words of `desk`.
-- Assumes nothing.
use Rattle.std.specs.Prelude.{ℕ, Bool, true, false, List, [], ◌∷◌, Option, Some, None, eqb}
use Rattle.laws.specs.Choice.{if_b, both}
use Rattle.commands.specs.declared.Word.{Word}

-- the same bytes, one by one
unfoldable pub same_bytes : List ℕ → List ℕ → Bool
same_bytes [] [] = true
same_bytes [] (y ∷ ys) = false
same_bytes (x ∷ xs) [] = false
same_bytes (x ∷ xs) (y ∷ ys) = both (eqb x y) (same_bytes xs ys)

-- `layout`
abbrev pub layout_word : List ℕ
layout_word = 108 ∷ 97 ∷ 121 ∷ 111 ∷ 117 ∷ 116 ∷ []

-- the word that these bytes are, if they are one
unfoldable pub word_of : List ℕ → Option Word
word_of bytes = if_b (same_bytes bytes layout_word) (Some Word.Layout) None
