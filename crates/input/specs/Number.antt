-- The number that an argument says, or that it says none.
-- Assumes nothing.
use Rattle.std.specs.Prelude.{ℕ, ◌+◌, ◌-◌, ◌*◌, ◌^◌, Bool, List, Option, Some, None, ltb, length, get_or}
use Rattle.laws.specs.Choice.{if_b, if_lt, both}
use Rattle.laws.specs.Below.{all_below}
use Rattle.text.specs.Digits.{value_from}

-- 48 is `0` and 57 is `9`
unfoldable pub is_digit : ℕ → Bool
is_digit byte = both (ltb 47 byte) (ltb byte 58)

-- the number, where a usize holds it
unfoldable pub held : ℕ → Option ℕ
held n = if_lt n (2 ^ 64) (Some n) None

-- digits and nothing else, one at least
unfoldable pub all_digits : List ℕ → Bool
all_digits bytes = both (ltb 0 (length bytes)) (all_below (λ k. is_digit (get_or bytes k 0)) (length bytes))

unfoldable pub number_of : List ℕ → Option ℕ
number_of bytes = if_b (all_digits bytes) (held (value_from 0 bytes)) None

-- one digit behind those that said the number before
unfoldable pub with_digit : ℕ → ℕ → Option ℕ
with_digit before byte = if_b (is_digit byte) (held (before * 10 + (byte - 48))) None
