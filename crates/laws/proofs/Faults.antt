-- Faults gathered into one number: the union of the digits of two numbers is 0 exactly where both are, so a loop that only ever adds digits, and
-- never stops, ends at 0 exactly where every entry passes.
-- Assumes nothing.
use Prim.Native.Nat.{ℕ, ◌+◌, ◌≤◌}
use native.Mathlib.Nat.{le_antisymm}
use native.Mathlib.Numerals.{add-one}
use native.Mathlib.Omega.{arith}
use mathlib.Core.Path.{◌≡◌, sym, ◌∙◌, ap, ap₂}
use mathlib.Core.Bool.{Bool}
use lib.Dec.{eqb}
use lib.Bits.{bit_or, bit_xor, or_zero_l, or_add_and, xor_add_and, xor_self, and_le_l, and_le_r}
use borrow.Author.Tests.{eqb-true, eq-eqb}
use Rattle.laws.specs.Choice.{both}
use Rattle.laws.specs.Below.{all_below}
use Rattle.laws.proofs.Choice.{both_yes, both_left, both_right, same_test}
use Rattle.laws.proofs.Below.{all_start}

-- ---- one more fault

or_0 : (a b : ℕ) → bit_or a b ≡ 0 → (a ≡ 0) × (b ≡ 0)
or_0 a b e =
    (omega (arith, or_add_and a b, and_le_r a b), omega (arith, or_add_and a b, and_le_l a b))

pub faults_or : (f g : ℕ) (s t : Bool) → eqb f 0 ≡ s → eqb g 0 ≡ t → eqb (bit_or f g) 0 ≡ both s t
faults_or f g s t p q =
    same_test (eqb (bit_or f g) 0) (both s t)
    (λ e. let (a, b) = or_0 f g (eqb-true (bit_or f g) 0 e) in both_yes s t (sym p ∙ eq-eqb f 0 a) (sym q ∙ eq-eqb g 0 b))
    (λ e. let a : f ≡ 0 = eqb-true f 0 (p ∙ both_left s t e) in let b : g ≡ 0 = eqb-true g 0 (q ∙ both_right s t e) in eq-eqb (bit_or f g) 0 (ap₂ bit_or a b ∙ or_zero_l 0))

-- two numbers differ in no digit exactly where they are the same
pub faults_xor : (a b : ℕ) → eqb (bit_xor a b) 0 ≡ eqb a b
faults_xor a b =
    same_test (eqb (bit_xor a b) 0) (eqb a b)
    (λ e. let none : bit_xor a b ≡ 0 = eqb-true (bit_xor a b) 0 e in eq-eqb a b (omega (arith, none, xor_add_and a b, and_le_l a b, and_le_r a b)))
    (λ e. let same : a ≡ b = eqb-true a b e in eq-eqb (bit_xor a b) 0 (ap (bit_xor a) (sym same) ∙ xor_self a))

module _ (t : ℕ → Bool) where
  pub faults_start : eqb 0 0 ≡ all_below t 0
  faults_start = sym (all_start t)

  pub faults_more : (n f g : ℕ) → eqb f 0 ≡ all_below t n → eqb g 0 ≡ t n → eqb (bit_or f g) 0 ≡ all_below t (n + 1)
  unfolding all_below
  faults_more n f g p q = rw add-one (faults_or f g (all_below t n) (t n) p q)

  pub faults_end : (n i f : ℕ) → eqb f 0 ≡ all_below t i → i ≤ n → n ≤ i → eqb f 0 ≡ all_below t n
  faults_end n i f p a b = p ∙ ap (all_below t) (le_antisymm a b)
