-- m different numbers below n: m is at most n. By induction on n: where n is among the values, the last of the m gives its own value for it,
-- which leaves m - 1 different numbers below n - 1.
-- Assumes nothing.
use Prim.Native.Nat.{ℕ, zero, suc, ◌<◌, ◌≤◌, suc-le-suc}
use native.Mathlib.Nat.{le_refl, not-suc-le-zero}
use native.Mathlib.Omega.{arith}
use mathlib.Core.Path.{◌≡◌, sym, ◌∙◌}
use Rattle.laws.specs.Choice.{if_eq}
use Rattle.laws.proofs.Choice.{eq_elim}

pub pigeonhole : (n m : ℕ) (g : ℕ → ℕ) → ((j : ℕ) → j < m → g j < n) → ((i j : ℕ) → i < m → j < m → g i ≡ g j → i ≡ j) → m ≤ n
pigeonhole zero zero g below differ = le_refl 0
pigeonhole zero (suc m) g below differ = absurd (not-suc-le-zero (below 0 (omega arith)))
pigeonhole (suc n) zero g below differ = omega arith
pigeonhole (suc n) (suc m) g below differ = suc-le-suc (pigeonhole n m other other_below other_differ)
  where
    -- g, with the last value in the place of n
    other : ℕ → ℕ
    other j = if_eq (g j) n (g m) (g j)

    -- none before the last has the last value
    last : (j : ℕ) → j < m → g m ≡ g j → ⊥
    last j h e =
        let q : m ≡ j = differ m j (le_refl (suc m)) (omega arith) e in
        omega arith

    other_below : (j : ℕ) → j < m → other j < n
    other_below j h =
        eq_elim (λ x. x < n) (g j) n (g m) (g j)
        (λ e. let d : g m ≡ n → ⊥ = λ q. last j h (q ∙ sym e) in omega (arith, below m (le_refl (suc m))))
        (λ d. omega (arith, below j (omega arith)))

    other_differ : (i j : ℕ) → i < m → j < m → other i ≡ other j → i ≡ j
    other_differ i j h l =
        eq_elim (λ x. x ≡ other j → i ≡ j) (g i) n (g m) (g i)
        (λ a. eq_elim (λ x. g m ≡ x → i ≡ j) (g j) n (g m) (g j) (λ b _. differ i j (omega arith) (omega arith) (a ∙ sym b)) (λ _ e. absurd (last j l e)))
        (λ _. eq_elim (λ x. g i ≡ x → i ≡ j) (g j) n (g m) (g j) (λ _ e. absurd (last i h (sym e))) (λ _ e. differ i j (omega arith) (omega arith) e))
