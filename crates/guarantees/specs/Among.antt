-- One of a list of numbers.
-- Assumes nothing.
use Rattle.std.specs.Prelude.{ℕ, ◌≡◌, ◌⊎◌, List, [], ◌∷◌}

abbrev pub Among : List ℕ → ℕ → Type 0
Among [] k = ⊥
Among (n ∷ ns) k = (k ≡ n) ⊎ Among ns k

-- "Numbers that come back", by entry point
abbrev pub plan_numbers : List ℕ
plan_numbers = 0 ∷ 1 ∷ 2 ∷ 3 ∷ 4 ∷ 5 ∷ 6 ∷ 7 ∷ 8 ∷ 9 ∷ 10 ∷ []

abbrev pub start_numbers : List ℕ
start_numbers = 0 ∷ 17 ∷ []

-- a method is handed no bytes, so 11 and 12 are not among its numbers
abbrev pub method_numbers : List ℕ
method_numbers = 0 ∷ 13 ∷ 14 ∷ 15 ∷ 16 ∷ 18 ∷ 17 ∷ []

abbrev pub action_numbers : List ℕ
action_numbers = 0 ∷ 13 ∷ 14 ∷ 15 ∷ 16 ∷ 18 ∷ 17 ∷ 11 ∷ 12 ∷ []

abbrev pub table_numbers : List ℕ
table_numbers = 0 ∷ 17 ∷ 20 ∷ 21 ∷ []
