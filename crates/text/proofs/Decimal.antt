-- Why `decimal` gives a number's decimal digits: how much is counted down in `digits_in` does not matter once it is as large as the number, so
-- a number has one digit, or those of its tenth and then the last. Read back they give the number. A number below 10 to the k has at most k.
-- Assumes nothing.
use Prim.Native.Nat.{ℕ, zero, suc, ◌+◌, ◌-◌, ◌*◌, ◌/◌, ◌%◌, ◌^◌, ◌<◌, ◌≤◌}
use native.Mathlib.Nat.{le_refl, div-lt_iff_lt-mul, pow-suc}
use native.Mathlib.Omega.{arith}
use native.Mathlib.Decide.{dec_lt}
use mathlib.Core.Path.{◌≡◌, refl, sym, ◌∙◌, ap, subst}
use mathlib.Core.List.{List, [], ◌∷◌, ◌++◌}
use lib.ListN.{length, get_or, length-append, get_or-append}
use lib.Seq.{get_or_at}
use Rattle.laws.specs.Choice.{if_lt}
use Rattle.laws.proofs.Choice.{if_lt_yes, if_lt_no}
use Rattle.laws.proofs.Below.{below_split}
use Rattle.text.specs.Lines.{glyph, digits_in, decimal}
use Rattle.text.specs.Digits.{value_from, IsDecimal}

pub enough : (k j n : ℕ) → n ≤ k → n ≤ j → digits_in k n ≡ digits_in j n
unfolding digits_in
enough zero zero n a b = refl
enough zero (suc j) n a b = sym (if_lt_yes n 10 (glyph n ∷ []) (digits_in j (n / 10) ++ glyph (n % 10) ∷ []) (omega arith))
enough (suc k) zero n a b = if_lt_yes n 10 (glyph n ∷ []) (digits_in k (n / 10) ++ glyph (n % 10) ∷ []) (omega arith)
enough (suc k) (suc j) n a b = go (dec_lt n 10) (enough k j (n / 10))
  where
    go : Dec (n < 10) → (n / 10 ≤ k → n / 10 ≤ j → digits_in k (n / 10) ≡ digits_in j (n / 10)) → if_lt n 10 (glyph n ∷ []) (digits_in k (n / 10) ++ glyph (n % 10) ∷ []) ≡ if_lt n 10 (glyph n ∷ []) (digits_in j (n / 10) ++ glyph (n % 10) ∷ [])
    go (yes h) r =
        if_lt_yes n 10 (glyph n ∷ []) (digits_in k (n / 10) ++ glyph (n % 10) ∷ [])
        h
        ∙ sym (if_lt_yes n 10 (glyph n ∷ []) (digits_in j (n / 10) ++ glyph (n % 10) ∷ []) h)
    go (no h) r =
        if_lt_no n 10 (glyph n ∷ []) (digits_in k (n / 10) ++ glyph (n % 10) ∷ []) (omega arith)
        ∙ ap (λ ds. ds ++ glyph (n % 10) ∷ []) (r (omega arith) (omega arith))
        ∙ sym (if_lt_no n 10 (glyph n ∷ []) (digits_in j (n / 10) ++ glyph (n % 10) ∷ []) (omega arith))

-- ---- the two shapes of a number's digits

pub one_digit : (n : ℕ) → n < 10 → decimal n ≡ glyph n ∷ []
unfolding decimal digits_in
one_digit zero h = refl
one_digit (suc n) h = if_lt_yes (suc n) 10 (glyph (suc n) ∷ []) (digits_in n (suc n / 10) ++ glyph (suc n % 10) ∷ []) h

pub more_digits : (n : ℕ) → 10 ≤ n → decimal n ≡ decimal (n / 10) ++ glyph (n % 10) ∷ []
unfolding decimal digits_in
more_digits zero h = absurd (omega arith)
more_digits (suc n) h =
    if_lt_no (suc n) 10 (glyph (suc n) ∷ []) (digits_in n (suc n / 10) ++ glyph (suc n % 10) ∷ []) h
    ∙ ap (λ ds. ds ++ glyph (suc n % 10) ∷ []) (enough n (suc n / 10) (suc n / 10) (omega arith) (omega arith))

-- ---- what they are

-- the digits behind others go on from what those said
pub value_append : (v : ℕ) (ds es : List ℕ) → value_from v (ds ++ es) ≡ value_from (value_from v ds) es
unfolding value_from
value_append v [] es = refl
value_append v (d ∷ ds) es = value_append (v * 10 + (d - 48)) ds es

pub value_more : (v : ℕ) (ds : List ℕ) (d : ℕ) → value_from v (ds ++ glyph d ∷ []) ≡ value_from v ds * 10 + d
unfolding value_from glyph
value_more v ds d = value_append v ds (glyph d ∷ []) ∙ omega arith

pub one_is : (d : ℕ) → d < 10 → IsDecimal d (glyph d ∷ [])
unfolding value_from glyph
one_is d h =
    record {
      says = omega arith;
      digit = λ k l. rw (the_first k l) (omega arith);
      some = omega arith;
      led = λ l. absurd (omega arith);
    }
  where
    the_first : (k : ℕ) → k < 1 → k ≡ 0
    the_first k l = omega arith

-- the first digit of a number that is not 0 is not 0
pub first_digit : (ds : List ℕ) (n : ℕ) → 0 < n → IsDecimal n ds → 48 < get_or ds 0 0
unfolding value_from
first_digit [] n h p = absurd (omega (arith, p.some))
first_digit (d ∷ []) n h p = omega (arith, p.says)
first_digit (d ∷ e ∷ ds) n h p = p.led (omega arith)

pub more_is : (n : ℕ) (ds : List ℕ) → 10 ≤ n → IsDecimal (n / 10) ds → IsDecimal n (ds ++ glyph (n % 10) ∷ [])
more_is n ds h p =
    record {
      says = value_more 0 ds (n % 10) ∙ omega (arith, p.says);
      digit = λ k l.
          below_split (λ j. (48 ≤ get_or (ds ++ last ∷ []) j 0) × (get_or (ds ++ last ∷ []) j 0 < 58)) (length ds) k (omega (arith, longer))
          (λ m. rw (get_or-append ds (last ∷ []) 0 k m) (p.digit k m))
          (rw (get_or_at ds last [] 0 (length ds) refl) (unfold glyph in omega arith));
      some = omega (arith, longer);
      led = λ _. rw (get_or-append ds (last ∷ []) 0 0 p.some) (first_digit ds (n / 10) (omega arith) p);
    }
  where
    last : ℕ
    last = glyph (n % 10)

    longer : length (ds ++ last ∷ []) ≡ length ds + 1
    longer = length-append ds (last ∷ [])

pub decimal_is : (n : ℕ) → IsDecimal n (decimal n)
decimal_is n = go n n (le_refl n)
  where
    go : (k m : ℕ) → m ≤ k → IsDecimal m (decimal m)
    go zero m h = subst (IsDecimal m) (sym (one_digit m (omega arith))) (one_is m (omega arith))
    go (suc k) m h = at (dec_lt m 10) (go k (m / 10))
      where
        at : Dec (m < 10) → (m / 10 ≤ k → IsDecimal (m / 10) (decimal (m / 10))) → IsDecimal m (decimal m)
        at (yes l) r = subst (IsDecimal m) (sym (one_digit m l)) (one_is m l)
        at (no l) r =
            subst (IsDecimal m) (sym (more_digits m (omega arith))) (more_is m (decimal (m / 10)) (omega arith) (r (omega arith)))

-- at most k digits where the number is below 10 to the k
pub short : (k n : ℕ) → n < 10 ^ suc k → length (decimal n) ≤ suc k
short zero n h = rw (one_digit n (omega arith)) (omega arith)
short (suc k) n h = at (dec_lt n 10) (short k (n / 10))
  where
    at : Dec (n < 10) → (n / 10 < 10 ^ suc k → length (decimal (n / 10)) ≤ suc k) → length (decimal n) ≤ suc (suc k)
    at (yes l) r = rw (one_digit n l) (omega arith)
    at (no l) r =
        rw (more_digits n (omega arith))
        (omega (arith, length-append (decimal (n / 10)) (glyph (n % 10) ∷ []), r ((div-lt_iff_lt-mul {k = 10} {x = n} {y = 10 ^ suc k} (omega arith)).1 (rw pow-suc at h))))
