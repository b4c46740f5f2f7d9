-- The binary digits of a number. Halving drops the lowest digit, so each law goes down the digits of both numbers at once: one clause for the
-- lowest digit, one for the rest.
-- Assumes nothing.
use Prim.Native.Nat.{ℕ, zero, suc, ◌+◌, ◌-◌, ◌/◌, ◌%◌, ◌^◌, ◌<◌, ◌≤◌}
use native.Mathlib.Nat.{div-one, pow-suc, div-div-eq-div-mul, mul_comm, not-suc-le-zero}
use native.Mathlib.Omega.{arith}
use mathlib.Core.Path.{◌≡◌, refl, sym, ◌∙◌, ap, ap₂}
use lib.Bits.{bit_or, or_step, or_zero_r}
use lib.Count.{ones, ones_step, count_trailing_zeros, under}
use Rattle.laws.specs.Below.{sum_below}
use Rattle.laws.proofs.Below.{sum_same}
use Rattle.nodeset.specs.Marks.{digit}

pub digit_zero : (m : ℕ) → digit m 0 ≡ m % 2
unfolding digit
digit_zero m = ap (λ x. x % 2) (div-one m)

pub digit_suc : (m k : ℕ) → digit m (suc k) ≡ digit (m / 2) k
unfolding digit
digit_suc m k = ap (λ x. x % 2) (ap (λ x. m / x) (pow-suc 2 k ∙ mul_comm (2 ^ k) 2) ∙ sym (div-div-eq-div-mul m 2 (2 ^ k)))

pub digit_below_two : (m k : ℕ) → digit m k < 2
unfolding digit
digit_below_two m k = omega arith

pub digit_of_zero : (k : ℕ) → digit 0 k ≡ 0
digit_of_zero zero = digit_zero 0
digit_of_zero (suc k) = digit_suc 0 k ∙ digit_of_zero k

-- a set digit weighs: the number is at least its weight
pub digit_weighs : (k m : ℕ) → digit m k ≡ 1 → 2 ^ k ≤ m
digit_weighs zero m e = omega (arith, digit_zero m)
digit_weighs (suc k) m e = omega (arith, digit_weighs k (m / 2) (sym (digit_suc m k) ∙ e))

-- ---- one digit raised or cleared

-- where digit k is 0, adding its weight sets it ..
pub raised_same : (k m : ℕ) → digit m k ≡ 0 → digit (m + 2 ^ k) k ≡ 1
raised_same zero m e = digit_zero (m + 1) ∙ omega (arith, digit_zero m)
raised_same (suc k) m e =
    digit_suc (m + 2 ^ suc k) k
    ∙ ap (λ x. digit x k) (omega arith)
    ∙ raised_same k (m / 2) (sym (digit_suc m k) ∙ e)

-- .. and leaves the others
pub raised_other : (k j m : ℕ) → digit m k ≡ 0 → (j ≡ k → ⊥) → digit (m + 2 ^ k) j ≡ digit m j
raised_other zero zero m e d = absurd (d refl)
raised_other zero (suc j) m e d =
    digit_suc (m + 1) j ∙ ap (λ x. digit x j) (omega (arith, digit_zero m)) ∙ sym (digit_suc m j)
raised_other (suc k) zero m e d = digit_zero (m + 2 ^ suc k) ∙ omega arith ∙ sym (digit_zero m)
raised_other (suc k) (suc j) m e d =
    digit_suc (m + 2 ^ suc k) j
    ∙ ap (λ x. digit x j) (omega arith)
    ∙ raised_other k j (m / 2) (sym (digit_suc m k) ∙ e) (λ q. d (ap suc q))
    ∙ sym (digit_suc m j)

-- where digit k is 0 the sum stays within as many digits
pub raised_fits : (n k m : ℕ) → k < n → m < 2 ^ n → digit m k ≡ 0 → m + 2 ^ k < 2 ^ n
raised_fits zero k m h l e = absurd (not-suc-le-zero h)
raised_fits (suc n) zero m h l e = omega (arith, digit_zero m)
raised_fits (suc n) (suc k) m h l e =
    omega (arith, raised_fits n k (m / 2) (omega arith) (omega arith) (sym (digit_suc m k) ∙ e))

-- the union with the weight of digit k is the sum where the digit is 0 ..
pub or_raises : (k m : ℕ) → digit m k ≡ 0 → bit_or m (2 ^ k) ≡ m + 2 ^ k
or_raises zero m e = omega (arith, or_step m 1, or_zero_r (m / 2), digit_zero m)
or_raises (suc k) m e =
    let half : 2 ^ suc k / 2 ≡ 2 ^ k = omega arith in
    omega (arith, or_step m (2 ^ suc k), ap (bit_or (m / 2)) half, or_raises k (m / 2) (sym (digit_suc m k) ∙ e))

-- .. and the number itself where it is 1
pub or_keeps : (k m : ℕ) → digit m k ≡ 1 → bit_or m (2 ^ k) ≡ m
or_keeps zero m e = omega (arith, or_step m 1, or_zero_r (m / 2), digit_zero m)
or_keeps (suc k) m e =
    let half : 2 ^ suc k / 2 ≡ 2 ^ k = omega arith in
    omega (arith, or_step m (2 ^ suc k), ap (bit_or (m / 2)) half, or_keeps k (m / 2) (sym (digit_suc m k) ∙ e))

-- where digit k is 1, taking its weight off clears it
pub cleared_same : (k m : ℕ) → digit m k ≡ 1 → digit (m - 2 ^ k) k ≡ 0
cleared_same zero m e = digit_zero (m - 1) ∙ omega (arith, digit_zero m)
cleared_same (suc k) m e =
    let f : digit (m / 2) k ≡ 1 = sym (digit_suc m k) ∙ e in
    digit_suc (m - 2 ^ suc k) k
    ∙ ap (λ x. digit x k) (omega (arith, digit_weighs k (m / 2) f))
    ∙ cleared_same k (m / 2) f

pub cleared_other : (k j m : ℕ) → digit m k ≡ 1 → (j ≡ k → ⊥) → digit (m - 2 ^ k) j ≡ digit m j
cleared_other k j m e d =
    let w : m - 2 ^ k + 2 ^ k ≡ m = omega (arith, digit_weighs k m e) in
    sym (raised_other k j (m - 2 ^ k) (cleared_same k m e) d) ∙ ap (λ x. digit x j) w

-- ---- the digits say the number

pub same_digits : (n a b : ℕ) → a < 2 ^ n → b < 2 ^ n → ((k : ℕ) → k < n → digit a k ≡ digit b k) → a ≡ b
same_digits zero a b p q e = omega arith
same_digits (suc n) a b p q e =
    omega (arith, low, same_digits n (a / 2) (b / 2) (omega arith) (omega arith) (λ k h. sym (digit_suc a k) ∙ e (suc k) (omega arith) ∙ digit_suc b k))
  where
    low : a % 2 ≡ b % 2
    low = sym (digit_zero a) ∙ e 0 (omega arith) ∙ digit_zero b

-- ---- counts of digits

sum_from_first : (f : ℕ → ℕ) (n : ℕ) → sum_below f (suc n) ≡ f 0 + sum_below (λ k. f (suc k)) n
unfolding sum_below
sum_from_first f zero = omega arith
sum_from_first f (suc n) = omega (arith, sum_from_first f n)

-- the count of ones is the sum of the digits
pub ones_are_digits : (n m : ℕ) → m < 2 ^ n → ones m ≡ sum_below (digit m) n
unfolding sum_below ones
ones_are_digits zero m h =
    let z : m ≡ 0 = omega arith in
    ap ones z
ones_are_digits (suc n) m h =
    ones_step m
    ∙ ap₂ ◌+◌ (sym (digit_zero m)) (ones_are_digits n (m / 2) (omega arith) ∙ sum_same (digit (m / 2)) (λ k. digit m (suc k)) n (λ k _. sym (digit_suc m k)))
    ∙ sym (sum_from_first (digit m) n)

-- below the count of trailing zeros every digit is 0 ..
under_lowest : (d t : ℕ) → 0 < under d t → d ≡ 0
under_lowest zero t h = refl
under_lowest (suc d) t h = absurd (not-suc-le-zero h)

under_rest : (d t k : ℕ) → suc k < under d t → k < t
under_rest zero t k h = omega arith
under_rest (suc d) t k h = absurd (not-suc-le-zero h)

pub trailing_clear : (n m k : ℕ) → k < count_trailing_zeros n m → digit m k ≡ 0
unfolding count_trailing_zeros
trailing_clear zero m k h = absurd (not-suc-le-zero h)
trailing_clear (suc n) m zero h = digit_zero m ∙ under_lowest (m % 2) (count_trailing_zeros n (m / 2)) h
trailing_clear (suc n) m (suc k) h =
    digit_suc m k ∙ trailing_clear n (m / 2) k (under_rest (m % 2) (count_trailing_zeros n (m / 2)) k h)

-- .. and the digit there is set, unless there is none
pub trailing_set : (n m : ℕ) → count_trailing_zeros n m < n → digit m (count_trailing_zeros n m) ≡ 1
unfolding count_trailing_zeros
trailing_set zero m h = absurd (not-suc-le-zero h)
trailing_set (suc n) m h = at (m % 2) refl h (trailing_set n (m / 2))
  where
    at : (d : ℕ) → m % 2 ≡ d → under d (count_trailing_zeros n (m / 2)) < suc n → (count_trailing_zeros n (m / 2) < n → digit (m / 2) (count_trailing_zeros n (m / 2)) ≡ 1) → digit m (under d (count_trailing_zeros n (m / 2))) ≡ 1
    at zero e l r = digit_suc m (count_trailing_zeros n (m / 2)) ∙ r (omega arith)
    at (suc d) e l r = digit_zero m ∙ omega arith
