-- Rounding to the nearest, a half to the even one: what the definition computes is the one number that people mean by it.
-- Assumes nothing.
use Prim.Native.Nat.{ℕ, ◌+◌, ◌-◌, ◌*◌, ◌/◌, ◌%◌, ◌<◌, ◌≤◌}
use native.Mathlib.Nat.{div-lt_iff_lt-mul, div-add-mod, mod-lt, lt_of_mul-lt-mul_left, mul-add, mul-one, mul_comm, mul-le-mul_left}
use native.Mathlib.Omega.{arith}
use native.Mathlib.Decide.{dec_lt, ℕ_discrete}
use mathlib.Core.Path.{◌≡◌, refl, sym, ◌∙◌, ap, ap₂, subst}
use mathlib.Core.Logic.{◌↔◌}
use mathlib.Core.List.{List, [], ◌∷◌, map}
use lib.ListN.{length, length-map}
use Rattle.laws.specs.Lists.{total}
use Rattle.laws.specs.Mean.{share_of, rule_of, apart, Nearest}
use Rattle.laws.proofs.Choice.{lt_elim, eq_elim}

-- one more, taken count times, is one count more
once_more : (count x : ℕ) → count * (x + 1) ≡ count * x + count
once_more count x = mul-add count x 1 ∙ ap (λ y. count * x + y) (mul-one count)

below_by_count : (count x y : ℕ) → x < y → count * x + count ≤ count * y
below_by_count count x y h =
    let next : x + 1 ≤ y = omega arith in
    omega (arith, once_more count x, mul-le-mul_left count next)

-- ---- what the definition gives is nearest

module _ (sum count : ℕ) (some : 0 < count) where
  -- the quotient, and what is left over
  abbrev q : ℕ
  q = sum / count

  abbrev r : ℕ
  r = sum % count

  whole : count * q + r ≡ sum
  whole = div-add-mod sum count

  less : r < count
  less = mod-lt sum some

  -- how far every whole number is away: of the quotient and the next one exactly, of all others by a count more
  at_quotient : apart sum (count * q) ≡ r
  at_quotient = omega (arith, whole)

  at_next : apart sum (count * (q + 1)) ≡ count - r
  at_next = omega (arith, whole, less, once_more count q)

  under : (y : ℕ) → y < q → count + r ≤ apart sum (count * y)
  under y h = omega (arith, whole, below_by_count count y q h)

  over : (y : ℕ) → q + 1 < y → count + (count - r) ≤ apart sum (count * y)
  over y h = omega (arith, whole, less, once_more count q, below_by_count count (q + 1) y h)

  each : (P : ℕ → Type 0) → ((y : ℕ) → y < q → P y) → P q → P (q + 1) → ((y : ℕ) → q + 1 < y → P y) → (y : ℕ) → P y
  each P below here next above y = at (dec_lt y q) (dec_lt (q + 1) y) (ℕ_discrete y q)
    where
      at : Dec (y < q) → Dec (q + 1 < y) → Dec (y ≡ q) → P y
      at (yes h) _ _ = below y h
      at (no _) (yes h) _ = above y h
      at (no _) (no _) (yes e) = subst P (sym e) here
      at (no l) (no h) (no d) =
          let e : q + 1 ≡ y = omega arith in
          subst P e next

  -- a number as near as the quotient and the next one are is nearest, if it is even wherever one of these two is another and as near
  nearest_of :
      (x d : ℕ) → apart sum (count * x) ≡ d → d ≤ r → d ≤ count - r → (d ≡ r → (x ≡ q → ⊥) → x % 2 ≡ 0) → (d ≡ count - r → (x ≡ q + 1 → ⊥) → x % 2 ≡ 0)
      → Nearest sum count x
  nearest_of x d here a b low high =
      record {
        nearest =
            each (λ y. apart sum (count * x) ≤ apart sum (count * y)) (λ y h. omega (arith, less, under y h)) (omega (arith, at_quotient)) (omega (arith, at_next))
            (λ y h. omega (arith, less, over y h));
        even =
            each (λ y. (x ≡ y → ⊥) → apart sum (count * x) ≡ apart sum (count * y) → x % 2 ≡ 0) (λ y h _ e. absurd (omega (arith, less, under y h)))
            (λ n e. low (omega (arith, at_quotient)) n)
            (λ n e. high (omega (arith, at_next)) n)
            (λ y h _ e. absurd (omega (arith, less, over y h)));
      }

  pub share_nearest : Nearest sum count (share_of sum count)
  unfolding share_of
  share_nearest =
      lt_elim (Nearest sum count) count (2 * r) _ _
      (λ up. nearest_of (q + 1) (count - r) at_next (omega arith) (omega arith) (λ e _. absurd (omega (arith, less))) (λ _ n. absurd (n refl)))
      (λ low. eq_elim (Nearest sum count) (2 * r) count _ _ (λ half. nearest_of (q + q % 2) r (middle half (dec_lt 0 (q % 2))) (omega arith) (omega arith) (λ _ _. omega arith) (λ _ _. omega arith))
      (λ d. nearest_of q r at_quotient (omega arith) (omega arith) (λ _ n. absurd (n refl)) (λ e _. absurd (d (omega (arith, less))))))
    where
      -- at the half both are as near
      middle : 2 * r ≡ count → Dec (0 < q % 2) → apart sum (count * (q + q % 2)) ≡ r
      middle half (yes odd) =
          let one : q + q % 2 ≡ q + 1 = omega arith in
          ap (λ x. apart sum (count * x)) one ∙ omega (arith, at_next)
      middle half (no not-odd) =
          let none : q + q % 2 ≡ q = omega arith in
          ap (λ x. apart sum (count * x)) none ∙ at_quotient

-- ---- and no other is

two_nearest : (sum count x y : ℕ) → 0 < count → x < y → Nearest sum count x → Nearest sum count y → ⊥
two_nearest sum count x y some h m n =
    let same : apart sum (count * x) ≡ apart sum (count * y) = omega (arith, m.nearest y, n.nearest x) in
    let lower = m.even y (λ e. omega arith) same in
    let upper = n.even x (λ e. omega arith) (sym same) in
    let further : x + 1 < y = omega arith in
    omega (arith, once_more count x, below_by_count count (x + 1) y further, m.nearest (x + 1))

pub nearest_unique : (sum count x y : ℕ) → 0 < count → Nearest sum count x → Nearest sum count y → x ≡ y
nearest_unique sum count x y some m n = at (dec_lt x y) (dec_lt y x)
  where
    at : Dec (x < y) → Dec (y < x) → x ≡ y
    at (yes h) _ = absurd (two_nearest sum count x y some h m n)
    at (no _) (yes h) = absurd (two_nearest sum count y x some h n m)
    at (no a) (no b) = omega arith

pub share_exactly : (sum count x : ℕ) → 0 < count → (x ≡ share_of sum count) ↔ Nearest sum count x
share_exactly sum count x some =
    (λ e. subst (Nearest sum count) (sym e) (share_nearest sum count some), λ m. nearest_unique sum count x (share_of sum count) some m (share_nearest sum count some))

-- ---- in range, and at rest

-- where something is left over, the quotient is below 65,535
pub quotient_below : (sum count : ℕ) → sum ≤ 65535 * count → 0 < sum % count → sum / count < 65535
quotient_below sum count at_most rest =
    lt_of_mul-lt-mul_left count (omega (arith, div-add-mod sum count))

-- a share of at most 65,535 for each is at most 65,535
pub share_below : (sum count : ℕ) → 0 < count → sum ≤ 65535 * count → share_of sum count < 65536
unfolding share_of
share_below sum count some at_most =
    lt_elim (λ x. x < 65536) count (2 * (sum % count)) _ _ (λ h. omega (arith, quotient_below sum count at_most (omega arith)))
    (λ _. eq_elim (λ x. x < 65536) (2 * (sum % count)) count _ _ (λ e. omega (arith, quotient_below sum count at_most (omega arith)))
    (λ _. (div-lt_iff_lt-mul some).1 (omega arith)))

-- what was nothing but the same value many times is shared into that value
pub share_of_equals : (count v : ℕ) → 0 < count → share_of (count * v) count ≡ v
share_of_equals count v some =
    nearest_unique (count * v) count (share_of (count * v) count) v some (share_nearest (count * v) count some)
    (record { nearest = λ y. omega arith; even = λ y n e. absurd (at y n e (dec_lt v y)) })
  where
    at : (y : ℕ) → (v ≡ y → ⊥) → apart (count * v) (count * v) ≡ apart (count * v) (count * y) → Dec (v < y) → ⊥
    at y n e (yes h) = omega (arith, below_by_count count v y h)
    at y n e (no h) =
        let l : y < v = omega arith in
        omega (arith, below_by_count count y v l)

total_of_equals : {A : Type 0} (v : ℕ) (l : List A) → total (map (λ _. v) l) ≡ v * length l
unfolding total
total_of_equals v [] = omega arith
total_of_equals v (x ∷ l) = omega (arith, total_of_equals v l)

-- a node whose neighbours all hold its own value keeps it
pub rule_of_equals : {A : Type 0} (v : ℕ) (l : List A) → rule_of v (map (λ _. v) l) ≡ v
unfolding rule_of
rule_of_equals v l =
    let sum : v + total (map (λ _. v) l) ≡ (1 + length l) * v = omega (arith, total_of_equals v l, mul_comm (1 + length l) v, mul-add v 1 (length l), mul-one v) in
    ap₂ share_of sum (ap (λ n. 1 + n) (length-map l (λ _. v))) ∙ share_of_equals (1 + length l) v (omega arith)
