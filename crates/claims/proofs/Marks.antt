-- Sets of marks: what two sets have in common, the set of the nodes below n, and that no member stands below the lowest.
-- Assumes nothing.
use Prim.Native.Nat.{ℕ, zero, suc, ◌/◌, ◌%◌, ◌^◌, ◌<◌, ◌≤◌, min}
use native.Mathlib.Nat.{not-suc-le-zero, lt_irrefl}
use native.Mathlib.Omega.{arith}
use native.Mathlib.Decide.{ℕ_discrete}
use mathlib.Core.Path.{◌≡◌, refl, sym, ◌∙◌, ap}
use mathlib.Core.Bool.{true}
use lib.Bits.{bit_and, and_step, and_shr, and_le_l, and_le_r}
use Rattle.laws.specs.Below.{fold_below}
use Rattle.laws.proofs.Below.{below_split, first_below}
use Rattle.laws.proofs.Choice.{not_true_false, true_not_false, same_test}
use Rattle.nodeset.specs.declared.NodeSet.{NodeSet}
use Rattle.nodeset.specs.Marks.{digit, member, inserted, removed, size_of, lowest_of}
use Rattle.nodeset.proofs.Digits.{digit_below_two}
use Rattle.nodeset.proofs.Marks.{member_below, member_digit, digit_member, empty_has_none, inserted_is_in, inserted_keeps_others, inserted_fits, removed_fits, removed_is_out, removed_keeps_others, same_members, lowest_is_in, lowest_below}
use Rattle.nodeset.proofs.Members.{size_rest, size_inserted, size_is_sum, sum_in_empty}
use Rattle.claims.specs.Claiming.{all_nodes}

-- ---- what two sets have in common

digit_and : (a b k : ℕ) → digit (bit_and a b) k ≡ min (digit a k) (digit b k)
unfolding digit
digit_and a b k = ap (λ x. x % 2) (and_shr a b k) ∙ omega (arith, and_step (a / 2 ^ k) (b / 2 ^ k))

module _ (a b k : ℕ) where
  pub in_both : member a k ≡ true → member b k ≡ true → member (bit_and a b) k ≡ true
  in_both p q =
      digit_member (bit_and a b) k (member_below a k p) (omega (arith, digit_and a b k, member_digit a k p, member_digit b k q))

  module _ (p : member (bit_and a b) k ≡ true) where
    pub in_first : member a k ≡ true
    in_first =
        digit_member a k (member_below (bit_and a b) k p) (omega (arith, digit_and a b k, member_digit (bit_and a b) k p, digit_below_two a k))

    pub in_second : member b k ≡ true
    in_second =
        digit_member b k (member_below (bit_and a b) k p) (omega (arith, digit_and a b k, member_digit (bit_and a b) k p, digit_below_two b k))

-- what two sets have in common without one of it is what the first has in common with the second without it
pub common_rest : (a b q : ℕ) → a < 2 ^ 64 → removed (bit_and a b) q ≡ bit_and a (removed b q)
common_rest a b q fits =
    same_members (removed (bit_and a b) q) (bit_and a (removed b q)) (removed_fits (bit_and a b) q (omega (arith, and_le_l a b))) (omega (arith, and_le_l a (removed b q)))
    (λ k _. same_test (member (removed (bit_and a b) q) k) (member (bit_and a (removed b q)) k) (there k (ℕ_discrete k q)) (back k (ℕ_discrete k q)))
  where
    there : (k : ℕ) → Dec (k ≡ q) → member (removed (bit_and a b) q) k ≡ true → member (bit_and a (removed b q)) k ≡ true
    there k (yes e) i = absurd (true_not_false _ i (ap (member (removed (bit_and a b) q)) e ∙ removed_is_out (bit_and a b) q))
    there k (no d) i =
        let both = sym (removed_keeps_others (bit_and a b) q k d) ∙ i in
        in_both a (removed b q) k (in_first a b k both) (removed_keeps_others b q k d ∙ in_second a b k both)

    back : (k : ℕ) → Dec (k ≡ q) → member (bit_and a (removed b q)) k ≡ true → member (removed (bit_and a b) q) k ≡ true
    back k (yes e) i = absurd (true_not_false _ (in_second a (removed b q) k i) (ap (member (removed b q)) e ∙ removed_is_out b q))
    back k (no d) i =
        let second = sym (removed_keeps_others b q k d) ∙ in_second a (removed b q) k i in
        removed_keeps_others (bit_and a b) q k d ∙ in_both a b k (in_first a (removed b q) k i) second

-- ---- the lowest member

pub lowest_least : (m k : ℕ) → member m k ≡ true → lowest_of m ≤ k
unfolding lowest_of
lowest_least m k p =
    let below : k < lowest_of m → ⊥ = λ h. true_not_false (member m k) p (first_below (member m) 64 k h) in
    omega arith

-- the lowest of those that two sets have in common is in both, and the second set has one fewer without it
module _ (a b : ℕ) (fits : b < 2 ^ 64) (some : bit_and a b ≡ 0 → ⊥) where
  pub lowest_common : member (bit_and a b) (lowest_of (bit_and a b)) ≡ true
  lowest_common = lowest_is_in (bit_and a b) (lowest_below (bit_and a b) (omega arith) (omega (arith, and_le_r a b)))

  pub lowest_second : member b (lowest_of (bit_and a b)) ≡ true
  lowest_second = in_second a b (lowest_of (bit_and a b)) lowest_common

  pub one_fewer : size_of b ≡ suc (size_of (removed b (lowest_of (bit_and a b))))
  one_fewer = size_rest b (lowest_of (bit_and a b)) lowest_second

-- ---- the nodes below n

-- the set that they are put into has their marks
pub marks_of_all : (n : ℕ) → (fold_below (λ p (s : NodeSet). record { marks = inserted s.marks p }) (record { marks = 0 }) n).marks ≡ all_nodes n
unfolding all_nodes fold_below
marks_of_all zero = refl
marks_of_all (suc n) = ap (λ m. inserted m n) (marks_of_all n)

pub all_in_lem : (n : ℕ) → n ≤ 64 → (p : ℕ) → p < n → member (all_nodes n) p ≡ true
unfolding all_nodes fold_below
all_in_lem zero few p h = absurd (not-suc-le-zero h)
all_in_lem (suc n) few p h =
    below_split (λ q. member (inserted (all_nodes n) n) q ≡ true) n p h
    (λ l. inserted_keeps_others (all_nodes n) n p (λ e. omega arith) ∙ all_in_lem n (omega arith) p l)
    (inserted_is_in (all_nodes n) n (omega arith))

pub all_below_lem : (n p : ℕ) → member (all_nodes n) p ≡ true → p < n
unfolding all_nodes fold_below
all_below_lem zero p e = absurd (true_not_false (member 0 p) e (empty_has_none p))
all_below_lem (suc n) p e = at (ℕ_discrete p n) (all_below_lem n p)
  where
    at : Dec (p ≡ n) → (member (all_nodes n) p ≡ true → p < n) → p < suc n
    at (yes q) r = omega arith
    at (no d) r = omega (arith, r (sym (inserted_keeps_others (all_nodes n) n p d) ∙ e))

pub all_fits : (n : ℕ) → all_nodes n < 2 ^ 64
unfolding all_nodes fold_below
all_fits zero = omega arith
all_fits (suc n) = inserted_fits (all_nodes n) n (all_fits n)

pub all_size : (n : ℕ) → n ≤ 64 → size_of (all_nodes n) ≡ n
unfolding all_nodes fold_below
all_size zero few = size_is_sum 0 ∙ sum_in_empty (λ _. 1)
all_size (suc n) few =
    size_inserted (all_nodes n) n few (not_true_false (member (all_nodes n) n) (λ e. lt_irrefl n (all_below_lem n n e)))
    ∙ ap suc (all_size n (omega arith))
