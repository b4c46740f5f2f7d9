-- The set's own facts, in document 01's words: what is in the empty set, in a set with one more node and in a set with one fewer; that a number
-- above 63 is in no set; what the size and the lowest member are; and that two sets with the same members are the same set.
-- Assumes nothing.
use Prim.Native.Nat.{ℕ, ◌+◌, ◌-◌, ◌*◌, ◌%◌, ◌^◌, ◌<◌, ◌≤◌}
use native.Mathlib.Nat.{mod-eq_of_lt, one-mul}
use native.Mathlib.Omega.{arith}
use native.Mathlib.Decide.{dec_lt}
use mathlib.Core.Path.{◌≡◌, refl, sym, ◌∙◌, ap, subst}
use mathlib.Core.Bool.{Bool, true, false}
use lib.Dec.{eqb}
use lib.Pow.{pow-lt, pow_pos}
use lib.Bits.{bit_or}
use lib.Count.{ones, count_trailing_zeros, trailing_le}
use borrow.Author.Tests.{eq-eqb, eqb-true, eqb-false}
use Rattle.laws.specs.Choice.{if_b}
use Rattle.laws.specs.Below.{count_below, first_of}
use Rattle.laws.proofs.Choice.{if_lt_yes, if_lt_no, b_elim, lt_elim, same_test, not_true_false}
use Rattle.laws.proofs.Below.{sum_same, first_found, first_none, first_passes, first_below, first_le}
use Rattle.nodeset.specs.Marks.{digit, member, inserted, removed, size_of, lowest_of}
use Rattle.nodeset.proofs.Digits.{digit_of_zero, digit_below_two, digit_weighs, raised_same, raised_other, raised_fits, or_raises, or_keeps, cleared_same, cleared_other, same_digits, ones_are_digits, trailing_clear, trailing_set}

-- ---- membership and the marks

pub member_below : (m k : ℕ) → member m k ≡ true → k < 64
unfolding member
member_below m k =
    lt_elim (λ t. t ≡ true → k < 64) k 64 (eqb (digit m k) 1) false (λ h _. h) (λ _ e. let z : ◌≡◌ {A = ℕ} 0 1 = cc in omega arith)

pub member_digit : (m k : ℕ) → member m k ≡ true → digit m k ≡ 1
unfolding member
member_digit m k e =
    eqb-true (digit m k) 1 (sym (if_lt_yes k 64 (eqb (digit m k) 1) false (member_below m k e)) ∙ e)

pub digit_member : (m k : ℕ) → k < 64 → digit m k ≡ 1 → member m k ≡ true
unfolding member
digit_member m k h e = if_lt_yes k 64 (eqb (digit m k) 1) false h ∙ eq-eqb (digit m k) 1 e

pub absent_digit : (m k : ℕ) → k < 64 → member m k ≡ false → digit m k ≡ 0
unfolding member
absent_digit m k h e =
    let d : digit m k ≡ 1 → ⊥ = eqb-false (digit m k) 1 (sym (if_lt_yes k 64 (eqb (digit m k) 1) false h) ∙ e) in
    omega (arith, digit_below_two m k, d)

pub digit_absent : (m k : ℕ) → digit m k ≡ 0 → member m k ≡ false
digit_absent m k e = not_true_false (member m k) (λ p. omega (arith, member_digit m k p))

-- the same digit at every place, the same members
same_digit_member : (a b k : ℕ) → digit a k ≡ digit b k → member a k ≡ member b k
same_digit_member a b k e =
    same_test (member a k) (member b k) (λ p. digit_member b k (member_below a k p) (sym e ∙ member_digit a k p))
    (λ p. digit_member a k (member_below b k p) (e ∙ member_digit b k p))

-- ---- "an empty set": nothing is in it

pub empty_has_none : (k : ℕ) → member 0 k ≡ false
empty_has_none k = digit_absent 0 k (digit_of_zero k)

-- ---- "a number above 63 is in no set, and adding it changes nothing"

pub above_63_in_none : (m k : ℕ) → 64 ≤ k → member m k ≡ false
unfolding member
above_63_in_none m k h = if_lt_no k 64 (eqb (digit m k) 1) false h

pub above_63_adds_nothing : (m k : ℕ) → 64 ≤ k → inserted m k ≡ m
unfolding inserted
above_63_adds_nothing m k h = if_lt_no k 64 (if_b (member m k) m (m + 2 ^ k)) m h

-- ---- "a set with one more node"

-- the marks after an insert: as they were where the node is in already or above 63, and else with its weight
inserted_elim : (P : ℕ → Type 0) (m k : ℕ) → (64 ≤ k → P m) → (member m k ≡ true → P m) → (k < 64 → digit m k ≡ 0 → P (m + 2 ^ k)) → P (inserted m k)
unfolding inserted
inserted_elim P m k above in-already new =
    lt_elim P k 64 (if_b (member m k) m (m + 2 ^ k)) m (λ h. b_elim P (member m k) m (m + 2 ^ k) in-already (λ e. new h (absent_digit m k h e))) above

pub inserted_is_in : (m k : ℕ) → k < 64 → member (inserted m k) k ≡ true
inserted_is_in m k h =
    inserted_elim (λ x. member x k ≡ true) m k (λ l. absurd (omega arith)) (λ e. e) (λ _ z. digit_member (m + 2 ^ k) k h (raised_same k m z))

pub inserted_keeps_others : (m k j : ℕ) → (j ≡ k → ⊥) → member (inserted m k) j ≡ member m j
inserted_keeps_others m k j d =
    inserted_elim (λ x. member x j ≡ member m j) m k (λ _. refl) (λ _. refl) (λ _ z. same_digit_member (m + 2 ^ k) m j (raised_other k j m z d))

-- the mark joined to the others: where it was among them already nothing changes
pub or_inserts : (m k : ℕ) → k < 64 → bit_or m (2 ^ k) ≡ inserted m k
or_inserts m k h =
    inserted_elim (λ x. bit_or m (2 ^ k) ≡ x) m k (λ l. absurd (omega arith)) (λ e. or_keeps k m (member_digit m k e)) (λ _ z. or_raises k m z)

pub inserted_fits : (m k : ℕ) → m < 2 ^ 64 → inserted m k < 2 ^ 64
inserted_fits m k f = inserted_elim (λ x. x < 2 ^ 64) m k (λ _. f) (λ _. f) (λ h z. raised_fits 64 k m h f z)

-- ---- a set without one of its nodes

removed_elim : (P : ℕ → Type 0) (m k : ℕ) → (member m k ≡ true → digit m k ≡ 1 → P (m - 2 ^ k)) → (member m k ≡ false → P m) → P (removed m k)
unfolding removed
removed_elim P m k had had-not = b_elim P (member m k) (m - 2 ^ k) m (λ e. had e (member_digit m k e)) had-not

pub removed_is_out : (m k : ℕ) → member (removed m k) k ≡ false
removed_is_out m k =
    removed_elim (λ x. member x k ≡ false) m k (λ _ o. digit_absent (m - 2 ^ k) k (cleared_same k m o)) (λ e. e)

pub removed_keeps_others : (m k j : ℕ) → (j ≡ k → ⊥) → member (removed m k) j ≡ member m j
removed_keeps_others m k j d =
    removed_elim (λ x. member x j ≡ member m j) m k (λ _ o. same_digit_member (m - 2 ^ k) m j (cleared_other k j m o d)) (λ _. refl)

pub removed_fits : (m k : ℕ) → m < 2 ^ 64 → removed m k < 2 ^ 64
removed_fits m k f = removed_elim (λ x. x < 2 ^ 64) m k (λ _ _. omega arith) (λ _. f)

pub removed_less : (m k : ℕ) → member m k ≡ true → removed m k < m
removed_less m k e =
    removed_elim (λ x. x < m) m k (λ _ o. omega (arith, digit_weighs k m o, pow_pos k)) (λ f. let z : ◌≡◌ {A = ℕ} 0 1 = cc in omega arith)

-- ---- two sets with the same members are the same set

pub same_members : (a b : ℕ) → a < 2 ^ 64 → b < 2 ^ 64 → ((k : ℕ) → k < 64 → member a k ≡ member b k) → a ≡ b
same_members a b p q e = same_digits 64 a b p q (λ k h. at k h (member a k) refl)
  where
    at : (k : ℕ) → k < 64 → (t : Bool) → member a k ≡ t → digit a k ≡ digit b k
    at k h true o = member_digit a k o ∙ sym (member_digit b k (sym (e k h) ∙ o))
    at k h false o = absent_digit a k h o ∙ sym (absent_digit b k h (sym (e k h) ∙ o))

-- ---- "its size is a count of them": the ones of the mask are the members below 64

pub size_is_ones : (m : ℕ) → m < 2 ^ 64 → ones m ≡ size_of m
unfolding size_of count_below
size_is_ones m f = ones_are_digits 64 m f ∙ sum_same (digit m) (λ k. if_b (member m k) 1 0) 64 (λ k h. b_elim (λ x. digit m k ≡ x) (member m k) 1 0 (member_digit m k) (absent_digit m k h))

-- ---- the lowest member

pub lowest_is_trailing : (m : ℕ) → count_trailing_zeros 64 m ≡ lowest_of m
unfolding lowest_of
lowest_is_trailing m = at (dec_lt (count_trailing_zeros 64 m) 64)
  where
    none : first_of (member m) (count_trailing_zeros 64 m) ≡ count_trailing_zeros 64 m
    none = first_none (member m) (count_trailing_zeros 64 m) (λ k h. digit_absent m k (trailing_clear 64 m k h))

    at : Dec (count_trailing_zeros 64 m < 64) → count_trailing_zeros 64 m ≡ first_of (member m) 64
    at (yes h) =
        first_found (member m) 64 (count_trailing_zeros 64 m) h none (digit_member m (count_trailing_zeros 64 m) h (trailing_set 64 m h))
    at (no h) =
        let e : count_trailing_zeros 64 m ≡ 64 = omega (arith, trailing_le 64 m) in
        e ∙ sym (subst (λ j. first_of (member m) j ≡ j) e none)

pub lowest_is_in : (m : ℕ) → lowest_of m < 64 → member m (lowest_of m) ≡ true
unfolding lowest_of
lowest_is_in m h = first_passes (member m) 64 h

-- a set that is not empty has a lowest member
pub lowest_below : (m : ℕ) → 0 < m → m < 2 ^ 64 → lowest_of m < 64
unfolding lowest_of
lowest_below m p f = at (dec_lt (first_of (member m) 64) 64)
  where
    at : Dec (first_of (member m) 64 < 64) → first_of (member m) 64 < 64
    at (yes h) = h
    at (no h) =
        let none : (k : ℕ) → k < 64 → member m k ≡ false = λ k l. first_below (member m) 64 k (omega (arith, first_le (member m) 64)) in
        let e : m ≡ 0 = same_members m 0 f (omega arith) (λ k l. none k l ∙ sym (empty_has_none k)) in
        absurd (omega arith)

-- ---- the code's `1 << k`

pub shifted_one : (k : ℕ) → k < 64 → 1 * 2 ^ k % 2 ^ 64 ≡ 2 ^ k
shifted_one k h = ap (λ x. x % 2 ^ 64) (one-mul (2 ^ k)) ∙ mod-eq_of_lt (pow-lt h)
