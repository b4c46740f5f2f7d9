-- A number and the number before it agree but for the lowest set digit and those below it, so that the mask of the two clears just that digit.
-- Assumes nothing.
use Prim.Native.Nat.{ℕ, zero, suc, ◌+◌, ◌-◌, ◌/◌, ◌%◌, ◌^◌, ◌<◌}
use native.Mathlib.Omega.{arith}
use native.Mathlib.Decide.{dec_lt}
use mathlib.Core.Path.{◌≡◌, refl, sym, ◌∙◌, ap, subst}
use lib.Bits.{bit_and, and_step, and_self, and_zero_l}
use lib.Count.{count_trailing_zeros, under}
use Rattle.laws.proofs.Choice.{if_b_yes, if_b_no}
use Rattle.nodeset.specs.Marks.{member, removed, lowest_of}
use Rattle.nodeset.proofs.Marks.{empty_has_none, lowest_is_trailing, lowest_is_in, lowest_below}

mask_clears_lowest : (n m : ℕ) → 0 < m → m < 2 ^ n → bit_and m (m - 1) ≡ m - 2 ^ count_trailing_zeros n m
unfolding count_trailing_zeros
mask_clears_lowest zero m some fits = absurd (omega arith)
mask_clears_lowest (suc n) m some fits = at (m % 2) refl (mask_clears_lowest n (m / 2))
  where
    at : (d : ℕ) → m % 2 ≡ d → (0 < m / 2 → m / 2 < 2 ^ n → bit_and (m / 2) (m / 2 - 1) ≡ m / 2 - 2 ^ count_trailing_zeros n (m / 2)) → bit_and m (m - 1) ≡ m - 2 ^ under d (count_trailing_zeros n (m / 2))
    at zero e r =
        let half : (m - 1) / 2 ≡ m / 2 - 1 = omega arith in
        let cleared : bit_and m (m - 1) ≡ m - 2 ^ suc (count_trailing_zeros n (m / 2)) = omega (arith, and_step m (m - 1), ap (bit_and (m / 2)) half, r (omega arith) (omega arith)) in
        cleared
    at (suc d) e r =
        let half : (m - 1) / 2 ≡ m / 2 = omega arith in
        let cleared : bit_and m (m - 1) ≡ m - 2 ^ 0 = omega (arith, and_step m (m - 1), ap (bit_and (m / 2)) half, and_self (m / 2)) in
        cleared

pub mask_removes_lowest : (m : ℕ) → 0 < m → m < 2 ^ 64 → bit_and m (m - 1) ≡ removed m (lowest_of m)
unfolding removed
mask_removes_lowest m some fits =
    mask_clears_lowest 64 m some fits
    ∙ ap (λ k. m - 2 ^ k) (lowest_is_trailing m)
    ∙ sym (if_b_yes (member m (lowest_of m)) (m - 2 ^ lowest_of m) m (lowest_is_in m (lowest_below m some fits)))

-- of the empty set there is nothing to remove
pub none_removes_none : (k : ℕ) → removed 0 k ≡ 0
unfolding removed
none_removes_none k = if_b_no (member 0 k) (0 - 2 ^ k) 0 (empty_has_none k)

-- the code's mask: the number before 0 is the highest, and of 0 the mask leaves nothing
pub wrapped_mask : (m : ℕ) → m < 2 ^ 64 → bit_and m ((m + 18446744073709551615) % 18446744073709551616) ≡ removed m (lowest_of m)
wrapped_mask m fits = at (dec_lt 0 m)
  where
    at : Dec (0 < m) → bit_and m ((m + 18446744073709551615) % 18446744073709551616) ≡ removed m (lowest_of m)
    at (yes some) =
        let before : (m + 18446744073709551615) % 18446744073709551616 ≡ m - 1 = omega arith in
        ap (bit_and m) before ∙ mask_removes_lowest m some fits
    at (no none) =
        let e : 0 ≡ m = omega arith in
        subst (λ n. bit_and n ((n + 18446744073709551615) % 18446744073709551616) ≡ removed n (lowest_of n)) e (and_zero_l ((0 + 18446744073709551615) % 18446744073709551616) ∙ sym (none_removes_none (lowest_of 0)))
