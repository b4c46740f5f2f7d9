-- Words for "every", "the sum", "one after the other", "the first" and "how many" over the numbers below n. Each is by recursion on n, so that a
-- loop's invariant is the same word at the loop's counter (`proofs/Below.antt`).
-- Assumes nothing.
use Rattle.std.specs.Prelude.{ℕ, zero, suc, ◌+◌, Bool, true, List, [], ◌∷◌, ◌++◌, set}
use Rattle.laws.specs.Choice.{if_b, if_lt, both}

-- the test holds of every number below n
unfoldable pub all_below : (ℕ → Bool) → ℕ → Bool
all_below t zero = true
all_below t (suc n) = both (all_below t n) (t n)

-- f 0 + f 1 + .. , the n terms below n
unfoldable pub sum_below : (ℕ → ℕ) → ℕ → ℕ
sum_below f zero = zero
sum_below f (suc n) = sum_below f n + f n

-- how many numbers below n pass the test
unfoldable pub count_below : (ℕ → Bool) → ℕ → ℕ
count_below t n = sum_below (λ k. if_b (t k) 1 0) n

-- z changed by f 0, then by f 1, .. , then by f (n - 1)
unfoldable pub fold_below : {A : Type 0} → (ℕ → A → A) → A → ℕ → A
fold_below f z zero = z
fold_below f z (suc n) = f n (fold_below f z n)

-- the lowest number below n that passes the test, and n where none does
unfoldable pub first_of : (ℕ → Bool) → ℕ → ℕ
first_of t zero = zero
first_of t (suc n) = if_lt (first_of t n) n (first_of t n) (if_b (t n) n (suc n))

-- the list with its first n entries replaced by f 0, f 1, .. , the rest as before
unfoldable pub over_below : {A : Type 0} → (ℕ → A) → ℕ → List A → List A
over_below f zero xs = xs
over_below f (suc n) xs = set (over_below f n xs) n (f n)

-- the list f 0, f 1, .. , of the n entries below n
unfoldable pub list_below : {A : Type 0} → (ℕ → A) → ℕ → List A
list_below f zero = []
list_below f (suc n) = list_below f n ++ f n ∷ []

-- the numbers below n that pass the test, in rising order
unfoldable pub pick_below : (ℕ → Bool) → ℕ → List ℕ
pick_below t zero = []
pick_below t (suc n) = pick_below t n ++ if_b (t n) (n ∷ []) []
