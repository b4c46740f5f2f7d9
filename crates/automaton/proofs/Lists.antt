-- A property of every entry of a list, as a tuple of its proofs: where the list is written out the tuple is too, and `omega` reads its parts.
-- Assumes nothing.
use Prim.Native.Nat.{ℕ, zero, suc, ◌<◌}
use native.Mathlib.Nat.{not-suc-le-zero, le_refl}
use native.Mathlib.Omega.{arith}
use mathlib.Core.Path.{◌≡◌, refl, ap₂, subst}
use mathlib.Core.Bool.{Bool, true}
use mathlib.Core.List.{List, [], ◌∷◌, ◌++◌, map}
use Rattle.laws.specs.Choice.{if_b}
use Rattle.laws.proofs.Choice.{if_b_yes, b_elim, both_left, both_right}
use Rattle.laws.proofs.Below.{below_split}
use Rattle.laws.specs.Below.{pick_below}
use Rattle.automaton.specs.Lists.{every}

module _ {A : Type 0} where
  abbrev pub Every : (A → Type 0) → List A → Type 0
  Every P [] = Unit {0}
  Every P (x ∷ xs) = P x × Every P xs

  -- a test of every entry that holds, holds of each
  pub every_each : (t : A → Bool) (l : List A) → every t l ≡ true → Every (λ x. t x ≡ true) l
  unfolding every
  every_each t [] e = tt
  every_each t (x ∷ l) e = (both_left (t x) (every t l) e, every_each t l (both_right (t x) (every t l) e))

  pub each_implies : {P Q : A → Type 0} → ((x : A) → P x → Q x) → (l : List A) → Every P l → Every Q l
  each_implies f [] h = tt
  each_implies f (x ∷ l) h = (f x h.0, each_implies f l h.1)

  pub each_of_all : {P : A → Type 0} → ((x : A) → P x) → (l : List A) → Every P l
  each_of_all f [] = tt
  each_of_all f (x ∷ l) = (f x, each_of_all f l)

  pub each_append : (P : A → Type 0) (l r : List A) → Every P l → Every P r → Every P (l ++ r)
  each_append P [] r h k = k
  each_append P (x ∷ l) r h k = (h.0, each_append P l r h.1 k)

  pub each_left : (P : A → Type 0) (l r : List A) → Every P (l ++ r) → Every P l
  each_left P [] r h = tt
  each_left P (x ∷ l) r h = (h.0, each_left P l r h.1)

  pub each_right : (P : A → Type 0) (l r : List A) → Every P (l ++ r) → Every P r
  each_right P [] r h = h
  each_right P (x ∷ l) r h = each_right P l r h.1

  pub map_same : {B : Type 0} (f g : A → B) (l : List A) → Every (λ x. f x ≡ g x) l → map f l ≡ map g l
  map_same f g [] h = refl
  map_same f g (x ∷ l) h = ap₂ ◌∷◌ h.0 (map_same f g l h.1)

pub each_of_map : {A B : Type 0} (P : B → Type 0) (f : A → B) (l : List A) → Every P (map f l) → Every (λ x. P (f x)) l
each_of_map P f [] h = tt
each_of_map P f (x ∷ l) h = (h.0, each_of_map P f l h.1)

-- the numbers below n that pass a test are just those: what holds of each of them holds of every such number, and the other way round
pub picked : (P : ℕ → Type 0) (t : ℕ → Bool) (n : ℕ) → Every P (pick_below t n) → (k : ℕ) → k < n → t k ≡ true → P k
unfolding pick_below
picked P t zero h k l e = absurd (not-suc-le-zero l)
picked P t (suc n) h k l e =
    below_split (λ j. t j ≡ true → P j) n k l (picked P t n (each_left P (pick_below t n) (if_b (t n) (n ∷ []) []) h) k)
    (λ e'. (subst (Every P) (if_b_yes (t n) (n ∷ []) [] e') (each_right P (pick_below t n) (if_b (t n) (n ∷ []) []) h)).0)
    e

pub picked_all : (P : ℕ → Type 0) (t : ℕ → Bool) (n : ℕ) → ((k : ℕ) → k < n → t k ≡ true → P k) → Every P (pick_below t n)
unfolding pick_below
picked_all P t zero f = tt
picked_all P t (suc n) f =
    each_append P (pick_below t n) (if_b (t n) (n ∷ []) []) (picked_all P t n (λ k l. f k (omega arith)))
    (b_elim (Every P) (t n) (n ∷ []) [] (λ e. (f n (le_refl (suc n)) e, tt)) (λ e. tt))
