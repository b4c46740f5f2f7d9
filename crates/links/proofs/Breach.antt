-- The first number at which a rule is broken: a search for the first that fails a test finds it, it is the only one, and it says what the
-- answer of a check says, "none" exactly where the rule is kept everywhere, and w exactly where w breaks it and none before does.
-- Assumes nothing.
use Prim.Native.Nat.{ℕ, ◌<◌, ◌≤◌}
use native.Mathlib.Nat.{le_refl, lt_of_lt_of_le, lt_irrefl}
use native.Mathlib.Omega.{arith}
use mathlib.Core.Path.{◌≡◌, refl, subst}
use mathlib.Core.Logic.{◌↔◌}
use mathlib.Core.Bool.{Bool, true, false, cond}
use lib.Dec.{ltb}
use borrow.Author.Tests.{lt-ltb, le-ltb, ltb-true, ltb-false}
use Rattle.std.specs.Prelude.{Some, None, unwrap_or}
use Rattle.laws.specs.Below.{first_of}
use Rattle.laws.proofs.Below.{first_le, first_passes, first_below}
use Rattle.links.specs.Breach.{Breach, place_in}

-- a test that holds where the rule is broken, and fails where it is kept, has its first there
pub first_is_breach : (t : ℕ → Bool) (Rule : ℕ → Type 0) (n : ℕ)
    → ((k : ℕ) → k < n → t k ≡ false → Rule k) → ((k : ℕ) → k < n → t k ≡ true → Rule k → ⊥) → Breach Rule n (first_of t n)
first_is_breach t Rule n keeps breaks =
    record {
      within = first_le t n;
      broken = λ h. breaks (first_of t n) h (first_passes t n h);
      kept_before = λ k h. keeps k (lt_of_lt_of_le h (first_le t n)) (first_below t n k h);
    }

module _ {Rule : ℕ → Type 0} {n : ℕ} where
  not_before : {w v : ℕ} → Breach Rule n w → Breach Rule n v → w < v → ⊥
  not_before {w} {v} b d h = b.broken (lt_of_lt_of_le h d.within) (d.kept_before w h)

  -- there is one answer
  pub breach_unique : {w v : ℕ} → Breach Rule n w → Breach Rule n v → w ≡ v
  breach_unique {w} {v} b d = omega (arith, not_before b d, not_before d b)

  -- none exactly where the rule is kept everywhere
  pub none_exactly : {w : ℕ} → Breach Rule n w → (w ≡ n) ↔ ((k : ℕ) → k < n → Rule k)
  none_exactly {w} b =
      (λ e k h. b.kept_before k (omega arith), λ kept. breach_unique b (record { within = le_refl n; broken = λ h. absurd (lt_irrefl n h); kept_before = kept }))

  -- w below n exactly where w breaks the rule and none before does
  pub breach_exactly : {v : ℕ} → Breach Rule n v → (w : ℕ) → w < n → (v ≡ w) ↔ ((Rule w → ⊥) × ((k : ℕ) → k < w → Rule k))
  breach_exactly {v} b w h =
      (λ e. (subst (λ x. Rule x → ⊥) e (b.broken (omega arith)), λ k l. b.kept_before k (omega arith)), λ found. breach_unique b (record { within = omega arith; broken = λ _. found.0; kept_before = found.1 }))

-- ---- the place that a check answers

pub place_yes : (n w : ℕ) → w < n → place_in n w ≡ Some w
place_yes n w h =
    let below : ltb w n ≡ true = lt-ltb w n h in
    rw below refl

pub place_no : (n w : ℕ) → n ≤ w → place_in n w ≡ None
place_no n w h =
    let past : ltb w n ≡ false = le-ltb w n h in
    rw past refl

pub place_some : (n w x : ℕ) → Some x ≡ place_in n w → (w < n) × (x ≡ w)
place_some n w x = at (ltb w n) refl
  where
    at : (b : Bool) → ltb w n ≡ b → Some x ≡ cond b (Some w) None → (w < n) × (x ≡ w)
    at true l e = (ltb-true w n l, cc)
    at false l e = absurd (cc)

pub place_none : (n w : ℕ) → None ≡ place_in n w → n ≤ w
place_none n w = at (ltb w n) refl
  where
    at : (b : Bool) → ltb w n ≡ b → None ≡ cond b (Some w) None → n ≤ w
    at true l e = absurd (cc)
    at false l e = ltb-false w n l

-- with n in place of none it is the number itself
pub place_or : {Rule : ℕ → Type 0} {n w : ℕ} → Breach Rule n w → unwrap_or (place_in n w) n ≡ w
place_or {Rule} {n} {w} b = at (ltb w n) refl
  where
    at : (t : Bool) → ltb w n ≡ t → unwrap_or (cond t (Some w) None) n ≡ w
    at true l = refl
    at false l = omega (arith, ltb-false w n l, b.within)
