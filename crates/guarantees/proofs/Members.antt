-- A test of every member of a set is the test of every entry of the list of its members.
-- Assumes nothing.
use Prim.Native.Nat.{ℕ, zero, suc}
use mathlib.Core.Path.{◌≡◌, refl, sym, ◌∙◌, ap, ap₂}
use mathlib.Core.Bool.{Bool, true, false}
use mathlib.Core.List.{List, [], ◌∷◌, ◌++◌, map, map-append}
use Rattle.laws.specs.Choice.{if_b, both}
use Rattle.laws.specs.Below.{all_below, pick_below}
use Rattle.laws.proofs.Choice.{if_b_yes, if_b_no, b_elim}
use Rattle.laws.proofs.Below.{all_same}
use Rattle.nodeset.specs.Marks.{member, all_in, members_of}
use Rattle.automaton.specs.Lists.{every}

pub both_true : (t : Bool) → both t true ≡ t
unfolding both if_b
both_true true = refl
both_true false = refl

both_assoc : (r s t : Bool) → both r (both s t) ≡ both (both r s) t
unfolding both if_b
both_assoc true s t = refl
both_assoc false s t = refl

module _ {A : Type 0} (t : A → Bool) where
  pub every_append : (l r : List A) → every t (l ++ r) ≡ both (every t l) (every t r)
  unfolding every both if_b
  every_append [] r = refl
  every_append (x ∷ l) r = ap (both (t x)) (every_append l r) ∙ both_assoc (t x) (every t l) (every t r)

  every_picked : (f : ℕ → A) (u : ℕ → Bool) (n : ℕ) → every t (map f (pick_below u n)) ≡ all_below (λ k. if_b (u k) (t (f k)) true) n
  unfolding every pick_below all_below
  every_picked f u zero = refl
  every_picked f u (suc n) =
      ap (every t) (map-append f (pick_below u n) (if_b (u n) (n ∷ []) []))
      ∙ every_append (map f (pick_below u n)) (map f (if_b (u n) (n ∷ []) []))
      ∙ ap₂ both (every_picked f u n) (b_elim (λ l. every t (map f l) ≡ if_b (u n) (t (f n)) true) (u n) (n ∷ []) [] (λ e. both_true (t (f n)) ∙ sym (if_b_yes (u n) (t (f n)) true e)) (λ e. sym (if_b_no (u n) (t (f n)) true e)))

  pub all_members : (s : ℕ → Bool) (f : ℕ → A) (m : ℕ) → ((q : ℕ) → member m q ≡ true → s q ≡ t (f q)) → all_in s m ≡ every t (map f (members_of m))
  unfolding all_in members_of
  all_members s f m agree =
      all_same _ _ 64 (λ k _. b_elim (λ x. x ≡ if_b (member m k) (t (f k)) true) (member m k) (s k) true (λ e. agree k e ∙ sym (if_b_yes (member m k) (t (f k)) true e)) (λ e. sym (if_b_no (member m k) (t (f k)) true e)))
      ∙ sym (every_picked f (member m) 64)
