-- Counting below n: a count is at most n, and it is 1 exactly where one number alone passes the test.
-- Assumes nothing.
use Prim.Native.Nat.{ℕ, zero, suc, ◌+◌, ◌<◌, ◌≤◌}
use native.Mathlib.Nat.{le_refl, not-suc-le-zero}
use native.Mathlib.Omega.{arith}
use native.Mathlib.Decide.{dec_lt}
use mathlib.Core.Path.{◌≡◌, refl, subst}
use mathlib.Core.Bool.{Bool, true, false}
use Rattle.laws.specs.Choice.{if_b}
use Rattle.laws.specs.Below.{sum_below, count_below}
use Rattle.laws.proofs.Choice.{if_b_yes, if_b_no, b_elim, not_true_false, true_not_false}
use Rattle.laws.proofs.Below.{below_split, sum_at_most, sum_zero}

module _ (t : ℕ → Bool) where
  pub count_at_most : (n : ℕ) → count_below t n ≤ n
  unfolding count_below
  count_at_most n =
      omega (arith, sum_at_most (λ k. if_b (t k) 1 0) 1 n (λ k _. b_elim (λ x. x ≤ 1) (t k) 1 0 (λ _. omega arith) (λ _. omega arith)))

  pub count_none : (n : ℕ) → ((k : ℕ) → k < n → t k ≡ false) → count_below t n ≡ 0
  unfolding count_below
  count_none n none = sum_zero (λ k. if_b (t k) 1 0) n (λ k h. if_b_no (t k) 1 0 (none k h))

  -- a count of 0: none passes
  none_counted : (n : ℕ) → count_below t n ≡ 0 → (k : ℕ) → k < n → t k ≡ false
  unfolding count_below sum_below
  none_counted zero e k h = absurd (not-suc-le-zero h)
  none_counted (suc n) e k h =
      below_split (λ j. t j ≡ false) n k h (none_counted n (omega arith) k)
      (not_true_false (t n) (λ i. omega (arith, if_b_yes {A = ℕ} (t n) 1 0 i)))

  -- a count of 1: one passes, and no other
  pub one_counted : (n : ℕ) → count_below t n ≡ 1 → (k : ℕ) × (k < n) × (t k ≡ true) × ((j : ℕ) → j < n → t j ≡ true → j ≡ k)
  unfolding count_below sum_below
  one_counted zero e = absurd (omega arith)
  one_counted (suc n) e = at (t n) refl (λ f. one_counted n f)
    where
      at : (b : Bool) → t n ≡ b → (count_below t n ≡ 1 → (k : ℕ) × (k < n) × (t k ≡ true) × ((j : ℕ) → j < n → t j ≡ true → j ≡ k)) → (k : ℕ) × (k < suc n) × (t k ≡ true) × ((j : ℕ) → j < suc n → t j ≡ true → j ≡ k)
      at true i before =
          let none = none_counted n (omega (arith, if_b_yes {A = ℕ} (t n) 1 0 i)) in
          (n, le_refl (suc n), i, λ j h. below_split (λ m. t m ≡ true → m ≡ n) n j h (λ l p. absurd (true_not_false (t j) p (none j l))) (λ _. refl))
      at false o before =
          let x = before (omega (arith, if_b_no {A = ℕ} (t n) 1 0 o)) in
          (x.0, omega (arith, x.1), x.2, λ j h. below_split (λ m. t m ≡ true → m ≡ x.0) n j h (λ l. x.3 j l) (λ p. absurd (true_not_false (t n) p o)))

  pub count_of_one : (n k : ℕ) → k < n → t k ≡ true → ((j : ℕ) → j < n → t j ≡ true → j ≡ k) → count_below t n ≡ 1
  unfolding count_below sum_below
  count_of_one zero k h i only = absurd (not-suc-le-zero h)
  count_of_one (suc n) k h i only = at (dec_lt k n) (λ l. count_of_one n k l i (λ j m. only j (omega arith)))
    where
      others : (j : ℕ) → j < suc n → (j ≡ k → ⊥) → t j ≡ false
      others j m d = not_true_false (t j) (λ p. d (only j m p))

      at : Dec (k < n) → (k < n → count_below t n ≡ 1) → count_below t n + if_b (t n) 1 0 ≡ 1
      at (yes l) before = omega (arith, before l, if_b_no {A = ℕ} (t n) 1 0 (others n (le_refl (suc n)) (λ e. omega arith)))
      at (no l) before =
          let e : k ≡ n = omega arith in
          omega (arith, count_none n (λ j m. others j (omega arith) (λ f. omega arith)), if_b_yes {A = ℕ} (t n) 1 0 (subst (λ m. t m ≡ true) e i))
