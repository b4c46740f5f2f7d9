-- A number has one row of digits: whatever row says n, without a zero in front, is `decimal n`. By the last digit, which is what n leaves by 10, and
-- the digits before it, which say n's tenth.
-- Assumes nothing.
use Prim.Native.Nat.{ℕ, zero, suc, ◌+◌, ◌-◌, ◌*◌, ◌/◌, ◌%◌, ◌<◌, ◌≤◌}
use native.Mathlib.Nat.{le_refl}
use native.Mathlib.Omega.{arith}
use mathlib.Core.Path.{◌≡◌, refl, sym, ◌∙◌, ap, ap₂, subst}
use mathlib.Core.List.{List, [], ◌∷◌, ◌++◌}
use lib.ListN.{length, get_or, length-append, get_or-append}
use lib.Seq.{get_or_at}
use Rattle.text.specs.Lines.{glyph, decimal}
use Rattle.text.specs.Digits.{value_from, IsDecimal}
use Rattle.text.proofs.Decimal.{one_digit, more_digits, value_more}

-- a list that is not empty, by its last element and those before it
record Ending (ds : List ℕ) : Type 0 where
  front : List ℕ
  last : ℕ
  is : ds ≡ front ++ last ∷ []

ending : (ds : List ℕ) → 0 < length ds → Ending ds
ending [] h = absurd (omega arith)
ending (d ∷ []) h = record { front = []; last = d; is = refl }
ending (d ∷ e ∷ ds) h =
    let r = ending (e ∷ ds) (omega arith) in
    record { front = d ∷ r.front; last = r.last; is = ap (λ l. d ∷ l) r.is }

-- digits only add to what was said before them
pub value_grows : (v : ℕ) (ds : List ℕ) → v ≤ value_from v ds
unfolding value_from
value_grows v [] = le_refl v
value_grows v (d ∷ ds) = omega (arith, value_grows (v * 10 + (d - 48)) ds)

not_zero : (ds : List ℕ) → 48 < get_or ds 0 0 → 0 < value_from 0 ds
unfolding value_from
not_zero [] h = absurd (omega arith)
not_zero (d ∷ ds) h = omega (arith, value_grows (0 * 10 + (d - 48)) ds)

module _ (n : ℕ) (front : List ℕ) (last : ℕ) (p : IsDecimal n (front ++ last ∷ [])) where
  longer : length (front ++ last ∷ []) ≡ length front + 1
  longer = length-append front (last ∷ [])

  last_digit : (48 ≤ last) × (last < 58)
  last_digit =
      rw (get_or_at front last [] 0 (length front) refl) at (p.digit (length front) (omega (arith, longer)))

  last_is : last ≡ glyph (last - 48)
  unfolding glyph
  last_is = omega (arith, last_digit)

  says : value_from 0 front * 10 + (last - 48) ≡ n
  says = sym (value_more 0 front (last - 48)) ∙ ap (λ d. value_from 0 (front ++ d ∷ [])) (sym last_is) ∙ p.says

  before_last : 0 < length front → IsDecimal (value_from 0 front) front
  before_last h =
      record {
        says = refl;
        digit = λ k l. rw (get_or-append front (last ∷ []) 0 k l) at (p.digit k (omega (arith, longer)));
        some = h;
        led = λ l. leads;
      }
    where
      leads : 48 < get_or front 0 0
      leads = rw (get_or-append front (last ∷ []) 0 0 h) at (p.led (omega (arith, longer)))

  above_0 : 0 < length front → 0 < value_from 0 front
  above_0 h = not_zero front (rw (get_or-append front (last ∷ []) 0 0 h) at (p.led (omega (arith, longer))))

  -- the digits before the last being those of n's tenth, all are n's
  all_are : 0 < length front → front ≡ decimal (value_from 0 front) → front ++ last ∷ [] ≡ decimal n
  all_are h e =
      let tenth : value_from 0 front ≡ n / 10 = omega (arith, says, last_digit) in
      let rest : last - 48 ≡ n % 10 = omega (arith, says, last_digit) in
      ap₂ (λ ds d. ds ++ d ∷ []) (e ∙ ap decimal tenth) (last_is ∙ ap glyph rest)
      ∙ sym (more_digits n (omega (arith, says, above_0 h)))

-- by the last digit, where it is known of those before it
by_last : (n : ℕ) (front : List ℕ) (last : ℕ) → IsDecimal n (front ++ last ∷ []) → (value_from 0 front < n → IsDecimal (value_from 0 front) front → front ≡ decimal (value_from 0 front)) → front ++ last ∷ [] ≡ decimal n
unfolding value_from
by_last n [] last p known =
    let digit : last - 48 ≡ n = omega (arith, says n [] last p) in
    ap (λ d. d ∷ []) (last_is n [] last p ∙ ap glyph digit) ∙ sym (one_digit n (omega (arith, last_digit n [] last p)))
by_last n (d ∷ ds) last p known =
    let some : 0 < length (d ∷ ds) = omega arith in
    all_are n (d ∷ ds) last p some
    (known (omega (arith, says n (d ∷ ds) last p, above_0 n (d ∷ ds) last p some)) (before_last n (d ∷ ds) last p some))

below : (k n : ℕ) (ds : List ℕ) → n ≤ k → IsDecimal n ds → ds ≡ decimal n
below zero n ds h p =
    let r = ending ds p.some in
    r.is ∙ by_last n r.front r.last (subst (IsDecimal n) r.is p) (λ l _. absurd (omega arith))
below (suc k) n ds h p =
    let r = ending ds p.some in
    r.is ∙ by_last n r.front r.last (subst (IsDecimal n) r.is p) (λ l q. below k (value_from 0 r.front) r.front (omega arith) q)

pub only_decimal : (n : ℕ) (ds : List ℕ) → IsDecimal n ds → ds ≡ decimal n
only_decimal n ds p = below n n ds (le_refl n) p
