-- Text as lists of bytes: decimal numbers, and lines of a word and numbers.
-- Assumes nothing.
use Rattle.std.specs.Prelude.{ℕ, zero, suc, ◌+◌, ◌/◌, ◌%◌, List, [], ◌∷◌, ◌++◌}
use Rattle.laws.specs.Choice.{if_lt}

-- the byte of a digit: 48 is `0`
unfoldable pub glyph : ℕ → ℕ
glyph d = 48 + d

-- the decimal digits of n, the first digit first; k is at least the number of digits after the first
unfoldable pub digits_in : ℕ → ℕ → List ℕ
digits_in zero n = glyph n ∷ []
digits_in (suc k) n = if_lt n 10 (glyph n ∷ []) (digits_in k (n / 10) ++ glyph (n % 10) ∷ [])

-- "Decimal": no zero in front, and one digit for 0
unfoldable pub decimal : ℕ → List ℕ
decimal n = digits_in n n

-- "single blanks": one before each number
unfoldable pub fields : List ℕ → List ℕ
fields [] = []
fields (n ∷ ns) = 32 ∷ decimal n ++ fields ns

-- "one line feed after each line"
unfoldable pub line : List ℕ → List ℕ → List ℕ
line name numbers = name ++ fields numbers ++ 10 ∷ []
