-- What a row of decimal digits is, said without how it is made. `decimal` gives one for every number
-- (`proofs/Decimal.antt`), and there is no other (`proofs/Digits.antt`).
-- Assumes nothing.
use Rattle.std.specs.Prelude.{ℕ, ◌+◌, ◌-◌, ◌*◌, ◌<◌, ◌≤◌, ◌≡◌, List, [], ◌∷◌, length, get_or}

-- the number that digits say which stand behind others that said v
unfoldable pub value_from : ℕ → List ℕ → ℕ
value_from v [] = v
value_from v (d ∷ ds) = value_from (v * 10 + (d - 48)) ds

pub record IsDecimal (n : ℕ) (ds : List ℕ) : Type 0 where
  -- read as a number, they give n
  pub says : value_from 0 ds ≡ n
  -- each is one of `0` to `9`, and there is one at least
  pub digit : (k : ℕ) → k < length ds → (48 ≤ get_or ds k 0) × (get_or ds k 0 < 58)
  pub some : 0 < length ds
  -- no zero in front of another digit
  pub led : 1 < length ds → 48 < get_or ds 0 0
