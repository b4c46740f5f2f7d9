-- A word for lists: a test of every entry.
-- Assumes nothing.
use Rattle.std.specs.Prelude.{Bool, true, List, [], ◌∷◌}
use Rattle.laws.specs.Choice.{both}

-- the test holds of every entry
unfoldable pub every : {A : Type 0} → (A → Bool) → List A → Bool
every t [] = true
every t (x ∷ xs) = both (t x) (every t xs)
