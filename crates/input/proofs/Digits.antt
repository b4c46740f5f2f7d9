-- Why digits read one by one give `number_of`: what was read so far is digits alone and says the number so far; a byte that is no digit spoils the
-- whole, and so does a number that a usize does not hold, since digits only add to it. And what `text` writes of a number is read as that number.
-- Assumes nothing.
use Prim.Native.Nat.{ℕ, ◌+◌, ◌-◌, ◌*◌, ◌^◌, ◌<◌, ◌≤◌}
use native.Mathlib.Omega.{arith}
use mathlib.Core.Path.{◌≡◌, refl, sym, ◌∙◌, ap}
use mathlib.Core.Bool.{Bool, true}
use mathlib.Core.List.{List, [], ◌∷◌}
use lib.Dec.{ltb}
use lib.ListN.{length, get_or, take, drop, take-append-drop}
use lib.Seq.{take_all}
use borrow.Author.Tests.{ltb-true, lt-ltb}
use Rattle.laws.specs.Below.{all_below}
use Rattle.laws.proofs.Choice.{if_b_yes, if_lt_yes, if_lt_no, b_elim, lt_elim, both_yes, both_left, both_right}
use Rattle.laws.proofs.Below.{all_start, all_more, all_at, all_of}
use Rattle.text.specs.Digits.{value_from, IsDecimal}
use Rattle.text.proofs.Decimal.{value_append}
use Rattle.text.proofs.Digits.{value_grows}
use Rattle.text.proofs.Lines.{take_more}
use Rattle.std.proofs.Common.{Some, None}
use Rattle.input.specs.Number.{is_digit, held, all_digits, number_of, with_digit}

-- ---- a digit, and a number that is held

pub digit_is : (byte : ℕ) → 48 ≤ byte → byte < 58 → is_digit byte ≡ true
unfolding is_digit
digit_is byte a b = both_yes (ltb 47 byte) (ltb byte 58) (lt-ltb 47 byte (omega arith)) (lt-ltb byte 58 b)

pub held_is : (n : ℕ) → n < 2 ^ 64 → held n ≡ Some n
unfolding held
held_is n h = if_lt_yes n (2 ^ 64) (Some n) None h

pub not_held : (n : ℕ) → 2 ^ 64 ≤ n → held n ≡ None
unfolding held
not_held n h = if_lt_no n (2 ^ 64) (Some n) None h

-- ---- one digit more

module _ (before byte : ℕ) where
  pub a_digit : is_digit byte ≡ true → with_digit before byte ≡ held (before * 10 + (byte - 48))
  unfolding with_digit
  a_digit e = if_b_yes (is_digit byte) (held (before * 10 + (byte - 48))) None e

  -- no number is told: the byte is no digit, or the number is not held
  pub told_nothing : with_digit before byte ≡ None → is_digit byte ≡ true → 2 ^ 64 ≤ before * 10 + (byte - 48)
  unfolding held
  told_nothing e d =
      lt_elim (λ z. z ≡ None → 2 ^ 64 ≤ before * 10 + (byte - 48)) (before * 10 + (byte - 48)) (2 ^ 64) (Some (before * 10 + (byte - 48))) None (λ _ q. let z : ◌≡◌ {A = ℕ} 0 1 = cc in omega arith)
      (λ h _. h) (sym (a_digit d) ∙ e)

  -- a number is told: the byte is a digit, and the number is the one before with it
  pub record Told (n : ℕ) : Type 0 where
    pub digit : is_digit byte ≡ true
    pub is : n ≡ before * 10 + (byte - 48)
    pub small : n < 2 ^ 64

  pub told_is : (n : ℕ) → with_digit before byte ≡ Some n → Told n
  unfolding with_digit held
  told_is n =
      b_elim (λ z. z ≡ Some n → Told n) (is_digit byte) (held (before * 10 + (byte - 48))) None
      (λ d. lt_elim (λ z. z ≡ Some n → Told n) (before * 10 + (byte - 48)) (2 ^ 64) (Some (before * 10 + (byte - 48))) None (λ h e. let is : n ≡ before * 10 + (byte - 48) = cc in record { digit = d; is = is; small = omega arith }) (λ _ e. let z : ◌≡◌ {A = ℕ} 0 1 = cc in absurd (omega arith)))
      (λ _ e. let z : ◌≡◌ {A = ℕ} 0 1 = cc in absurd (omega arith))

-- ---- the digits up to a place

module _ (bytes : List ℕ) where
  abbrev digit_at : ℕ → Bool
  digit_at k = is_digit (get_or bytes k 0)

  -- the bytes before place i are read, and they say the number
  pub record ReadTo (i number : ℕ) : Type 0 where
    pub digits : all_below digit_at i ≡ true
    pub says : number ≡ value_from 0 (take i bytes)
    pub small : number < 2 ^ 64

  value_one_more : (i : ℕ) → i < length bytes → value_from 0 (take (i + 1) bytes) ≡ value_from 0 (take i bytes) * 10 + (get_or bytes i 0 - 48)
  unfolding value_from
  value_one_more i h = ap (value_from 0) (take_more bytes i h) ∙ value_append 0 (take i bytes) (get_or bytes i 0 ∷ [])

  value_within : (i : ℕ) → value_from 0 (take i bytes) ≤ value_from 0 bytes
  value_within i =
      omega (arith, value_grows (value_from 0 (take i bytes)) (drop i bytes), value_append 0 (take i bytes) (drop i bytes), ap (value_from 0) (take-append-drop i bytes))

  pub read_none : ReadTo 0 0
  unfolding value_from
  read_none = record { digits = all_start digit_at; says = refl; small = omega arith }

  -- ---- number_of, case by case

  some_digits : 0 < length bytes → all_below digit_at (length bytes) ≡ true → all_digits bytes ≡ true
  unfolding all_digits
  some_digits some h = both_yes (ltb 0 (length bytes)) (all_below digit_at (length bytes)) (lt-ltb 0 (length bytes) some) h

  spoilt : (all_digits bytes ≡ true → 2 ^ 64 ≤ value_from 0 bytes) → None ≡ number_of bytes
  unfolding number_of
  spoilt h =
      b_elim (λ z. None ≡ z) (all_digits bytes) (held (value_from 0 bytes)) None (λ e. sym (not_held (value_from 0 bytes) (h e)))
      (λ _. refl)

  pub number_is : (n : ℕ) → all_digits bytes ≡ true → n ≡ value_from 0 bytes → n < 2 ^ 64 → Some n ≡ number_of bytes
  unfolding number_of
  number_is n e v h =
      sym (held_is n h) ∙ ap held v ∙ sym (if_b_yes (all_digits bytes) (held (value_from 0 bytes)) None e)

  -- no bytes say no number
  pub empty_none : length bytes ≡ 0 → None ≡ number_of bytes
  unfolding all_digits
  empty_none h = spoilt (λ e. absurd (omega (arith, ltb-true 0 (length bytes) (both_left (ltb 0 (length bytes)) (all_below digit_at (length bytes)) e))))

  module _ (i number : ℕ) (read : ReadTo i number) where
    module _ (there : i < length bytes) where
      pub one_more : (n : ℕ) → with_digit number (get_or bytes i 0) ≡ Some n → ReadTo (i + 1) n
      one_more n e =
          let told = told_is number (get_or bytes i 0) n e in
          record { digits = all_more digit_at i read.digits told.digit; says = told.is ∙ ap (λ v. v * 10 + (get_or bytes i 0 - 48)) read.says ∙ sym (value_one_more i there); small = told.small }

      pub no_more : with_digit number (get_or bytes i 0) ≡ None → None ≡ number_of bytes
      unfolding all_digits
      no_more e =
          spoilt (λ d. omega (arith, told_nothing number (get_or bytes i 0) e (all_at digit_at (length bytes) (both_right (ltb 0 (length bytes)) (all_below digit_at (length bytes)) d) i there), read.says, value_one_more i there, value_within (i + 1)))

    pub read_whole : 0 < length bytes → i ≡ length bytes → Some number ≡ number_of bytes
    read_whole some e =
        number_is number (some_digits some (ap (all_below digit_at) (sym e) ∙ read.digits)) (read.says ∙ ap (value_from 0) (take_all i bytes (omega arith))) read.small

-- ---- what `text` writes is read

pub written_is_read : (n : ℕ) (ds : List ℕ) → IsDecimal n ds → n < 2 ^ 64 → number_of ds ≡ Some n
written_is_read n ds p h =
    sym (number_is ds n (some_digits ds p.some (all_of (digit_at ds) (length ds) (λ k l. digit_is (get_or ds k 0) (p.digit k l).0 (p.digit k l).1))) (sym p.says) h)
