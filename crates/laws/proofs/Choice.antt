-- The laws of the choice words. `picks` closes an equation between an answer and a definition by the tests that led to the answer; an
-- `..-elim` takes a definition apart in a theorem, one branch at a time, each with what its test says.
-- Assumes nothing.
use Prim.Native.Nat.{ℕ, ◌<◌, ◌≤◌}
use native.Mathlib.Omega.{arith}
use mathlib.Core.Path.{◌≡◌, refl, sym, ◌∙◌, ap, subst}
use mathlib.Core.Bool.{Bool, true, false}
use lib.Dec.{ltb, eqb}
use borrow.Author.Tests.{lt-ltb, le-ltb, le-leb, lt-leb, eq-eqb, ne_eqb, ltb-true, ltb-false, eqb-true, eqb-false}
use Rattle.laws.specs.Choice.{if_b, if_lt, if_eq, both}

-- ---- which branch a test picks

pub if_b_yes : {A : Type 0} (t : Bool) (x y : A) → t ≡ true → if_b t x y ≡ x
unfolding if_b
if_b_yes t x y e = rw (e, if_b)

pub if_b_no : {A : Type 0} (t : Bool) (x y : A) → t ≡ false → if_b t x y ≡ y
unfolding if_b
if_b_no t x y e = rw (e, if_b)

pub if_lt_yes : {A : Type 0} (a b : ℕ) (x y : A) → a < b → if_lt a b x y ≡ x
unfolding if_lt
if_lt_yes a b x y h = if_b_yes (ltb a b) x y (lt-ltb a b h)

pub if_lt_no : {A : Type 0} (a b : ℕ) (x y : A) → b ≤ a → if_lt a b x y ≡ y
unfolding if_lt
if_lt_no a b x y h = if_b_no (ltb a b) x y (le-ltb a b h)

pub if_eq_yes : {A : Type 0} (a b : ℕ) (x y : A) → a ≡ b → if_eq a b x y ≡ x
unfolding if_eq
if_eq_yes a b x y h = if_b_yes (eqb a b) x y (eq-eqb a b h)

pub if_eq_no : {A : Type 0} (a b : ℕ) (x y : A) → (a ≡ b → ⊥) → if_eq a b x y ≡ y
unfolding if_eq
if_eq_no a b x y h = if_b_no (eqb a b) x y (ne_eqb a b h)

-- ---- an answer is what the definition picks: the shape of a `returns` need

pub yes_b : (A : Type 0) (t : Bool) (x y z : A) → t ≡ true → z ≡ x → z ≡ if_b t x y
yes_b A t x y z e p = p ∙ sym (if_b_yes t x y e)

pub no_b : (A : Type 0) (t : Bool) (x y z : A) → t ≡ false → z ≡ y → z ≡ if_b t x y
no_b A t x y z e p = p ∙ sym (if_b_no t x y e)

pub yes_lt : (A : Type 0) (a b : ℕ) (x y z : A) → a < b → z ≡ x → z ≡ if_lt a b x y
yes_lt A a b x y z h p = p ∙ sym (if_lt_yes a b x y h)

pub no_lt : (A : Type 0) (a b : ℕ) (x y z : A) → b ≤ a → z ≡ y → z ≡ if_lt a b x y
no_lt A a b x y z h p = p ∙ sym (if_lt_no a b x y h)

pub yes_eq : (A : Type 0) (a b : ℕ) (x y z : A) → a ≡ b → z ≡ x → z ≡ if_eq a b x y
yes_eq A a b x y z h p = p ∙ sym (if_eq_yes a b x y h)

pub no_eq : (A : Type 0) (a b : ℕ) (x y z : A) → (a ≡ b → ⊥) → z ≡ y → z ≡ if_eq a b x y
no_eq A a b x y z h p = p ∙ sym (if_eq_no a b x y h)

pub both_on : (s t z : Bool) → s ≡ true → z ≡ t → z ≡ both s t
unfolding both
both_on s t z e p = yes_b Bool s t false z e p

pub both_off : (s t z : Bool) → s ≡ false → z ≡ false → z ≡ both s t
unfolding both
both_off s t z e p = no_b Bool s t false z e p

pub ruleset picks = (yes_b, no_b, yes_lt, no_lt, yes_eq, no_eq, both_on, both_off)

-- a test of the code, as an equation of the same test in a definition
pub ruleset tests = (lt-ltb, le-ltb, le-leb, lt-leb, eq-eqb, ne_eqb)

-- ---- a definition taken apart: P holds of the choice where it holds of each branch under its test

pub b_elim : {A : Type 0} (P : A → Type 0) (t : Bool) (x y : A) → (t ≡ true → P x) → (t ≡ false → P y) → P (if_b t x y)
b_elim P true x y f g = subst P (sym (if_b_yes true x y refl)) (f refl)
b_elim P false x y f g = subst P (sym (if_b_no false x y refl)) (g refl)

pub lt_elim : {A : Type 0} (P : A → Type 0) (a b : ℕ) (x y : A) → (a < b → P x) → (b ≤ a → P y) → P (if_lt a b x y)
unfolding if_lt
lt_elim P a b x y f g = b_elim P (ltb a b) x y (λ e. f (ltb-true a b e)) (λ e. g (ltb-false a b e))

pub eq_elim : {A : Type 0} (P : A → Type 0) (a b : ℕ) (x y : A) → (a ≡ b → P x) → ((a ≡ b → ⊥) → P y) → P (if_eq a b x y)
unfolding if_eq
eq_elim P a b x y f g = b_elim P (eqb a b) x y (λ e. f (eqb-true a b e)) (λ e. g (eqb-false a b e))

-- ---- both tests hold

pub both_yes : (s t : Bool) → s ≡ true → t ≡ true → both s t ≡ true
unfolding both
both_yes s t p q = if_b_yes s t false p ∙ q

pub both_left : (s t : Bool) → both s t ≡ true → s ≡ true
unfolding both if_b
both_left true t e = refl
both_left false t e = e

pub both_right : (s t : Bool) → both s t ≡ true → t ≡ true
unfolding both if_b
both_right true t e = e
both_right false true e = refl
both_right false false e = e

-- two tests that follow from each other are one
pub same_test : (s t : Bool) → (s ≡ true → t ≡ true) → (t ≡ true → s ≡ true) → s ≡ t
same_test true t f g = sym (f refl)
same_test false true f g = g refl
same_test false false f g = refl

-- a test that does not hold is false
pub not_true_false : (t : Bool) → (t ≡ true → ⊥) → t ≡ false
not_true_false true f = absurd (f refl)
not_true_false false f = refl

pub true_not_false : (t : Bool) → t ≡ true → t ≡ false → ⊥
true_not_false t p q =
    let z : ◌≡◌ {A = ℕ} 0 1 = cc in
    omega arith

-- ---- by cases on what is known: the shape of a `returns` need in a `match`

pub told : {A B : Type 0} (f : A → B) {k j : A} {x : B} → k ≡ j → x ≡ f j → x ≡ f k
told f e p = p ∙ sym (ap f e)
