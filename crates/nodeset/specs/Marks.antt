-- A set of node numbers as marks: node k is in the set where the digit of weight 2 ^ k of one number below 2 ^ 64 is 1.
-- Assumes nothing.
use Rattle.std.specs.Prelude.{ℕ, ◌+◌, ◌-◌, ◌/◌, ◌%◌, ◌^◌, Bool, true, false, List, map, eqb}
use Rattle.laws.specs.Choice.{if_b, if_lt}
use Rattle.laws.specs.Below.{all_below, sum_below, count_below, first_of, pick_below}

-- mark k of the marks m
unfoldable pub digit : ℕ → ℕ → ℕ
digit m k = m / 2 ^ k % 2

-- "membership"; "a number above 63 is in no set"
unfoldable pub member : ℕ → ℕ → Bool
member m k = if_lt k 64 (eqb (digit m k) 1) false

-- "a set with one more node"; "adding [a number above 63] changes nothing"
unfoldable pub inserted : ℕ → ℕ → ℕ
inserted m k = if_lt k 64 (if_b (member m k) m (m + 2 ^ k)) m

-- a set without one of its nodes
unfoldable pub removed : ℕ → ℕ → ℕ
removed m k = if_b (member m k) (m - 2 ^ k) m

-- "its size is a count of them"
unfoldable pub size_of : ℕ → ℕ
size_of m = count_below (member m) 64

-- the lowest member, and 64 where there is none
unfoldable pub lowest_of : ℕ → ℕ
lowest_of m = first_of (member m) 64

-- the test holds of every member
unfoldable pub all_in : (ℕ → Bool) → ℕ → Bool
all_in t m = all_below (λ k. if_b (member m k) (t k) true) 64

-- the sum of f over the members
unfoldable pub sum_in : (ℕ → ℕ) → ℕ → ℕ
sum_in f m = sum_below (λ k. if_b (member m k) (f k) 0) 64

-- the members in rising order
unfoldable pub members_of : ℕ → List ℕ
members_of m = pick_below (member m) 64

-- what f gives for each member, in rising order of the members
unfoldable pub values_in : {A : Type 0} → (ℕ → A) → ℕ → List A
values_in f m = map f (members_of m)
