-- The walk over a set by `NodeSet::members`, as a list: it gives `members_of` the set. So a chain of iterators over the members, or a `for`, is tied to
-- the words over sets: `members_yield` starts the chain's proof, and `sum_of_values` and `all_from_members` are for its end.
-- Assumes nothing.
use Prim.Native.Nat.{ℕ, zero, suc, ◌+◌, ◌<◌}
use native.Mathlib.Nat.{not-suc-le-zero}
use native.Mathlib.Omega.{arith}
use native.Mathlib.Decide.{dec_lt}
use mathlib.Core.Path.{◌≡◌, refl, sym, ◌∙◌, ap, ap₂, subst}
use mathlib.Core.Bool.{Bool, true, false}
use mathlib.Core.List.{List, [], ◌∷◌, ◌++◌, map}
use lib.ListN.{length}
use denote.Param.Members.{Mut, Called}
use Rattle.std.proofs.Common.{Option, Some, None, MatchOption}
use Rattle.std.specs.Iterator.{YieldsThen}
use Rattle.std.specs.List.{FoldsTo, fold, sum}
use Rattle.std.proofs.lemmas.Iterator.{YieldsList}
use Rattle.std.proofs.lemmas.Iterator.Consumers.{YieldsList-from_shown}
use Rattle.laws.specs.Choice.{if_b}
use Rattle.laws.specs.Below.{pick_below}
use Rattle.laws.specs.Lists.{total}
use Rattle.laws.proofs.Choice.{if_b_yes, if_b_no}
use Rattle.laws.proofs.Below.{first_below}
use Rattle.nodeset.specs.Marks.{member, lowest_of, all_in, sum_in, members_of, values_in}
use Rattle.nodeset.specs.Walks.{Taken, takes_lowest}
use Rattle.nodeset.proofs.Marks.{empty_has_none, removed_is_out, removed_keeps_others}
use Rattle.nodeset.proofs.Members.{all_in_rest, all_in_fails, all_in_empty, total_values}

-- ---- the list of those that pass a test, from its front

pick_none : (t : ℕ → Bool) (n : ℕ) → ((j : ℕ) → j < n → t j ≡ false) → pick_below t n ≡ []
unfolding pick_below
pick_none t zero f = refl
pick_none t (suc n) f =
    ap₂ ◌++◌ (pick_none t n (λ j h. f j (omega arith))) (if_b_no (t n) (n ∷ []) [] (f n (omega arith)))

pick_first : (t s : ℕ → Bool) (n k : ℕ) → k < n → t k ≡ true → ((j : ℕ) → j < k → t j ≡ false) → s k ≡ false → ((j : ℕ) → (j ≡ k → ⊥) → s j ≡ t j) → pick_below t n ≡ k ∷ pick_below s n
unfolding pick_below
pick_first t s zero k h i l o e = absurd (not-suc-le-zero h)
pick_first t s (suc n) k h i l o e = at (dec_lt k n) (λ b. pick_first t s n k b i l o e)
  where
    at : Dec (k < n) → (k < n → pick_below t n ≡ k ∷ pick_below s n) → pick_below t n ++ if_b (t n) (n ∷ []) [] ≡ k ∷ (pick_below s n ++ if_b (s n) (n ∷ []) [])
    at (yes b) r =
        ap₂ (λ (x : List ℕ) (b : Bool). x ++ if_b b (n ∷ []) []) (r b) (sym (e n (λ q. omega arith)))
    at (no b) r =
        let k-is : k ≡ n = omega arith in
        ap₂ ◌++◌ (pick_none t n (λ j q. l j (omega arith))) (if_b_yes (t n) (n ∷ []) [] (ap t (sym k-is) ∙ i))
        ∙ ap (λ x. x ∷ []) (sym k-is)
        ∙ ap (λ x. k ∷ x) (sym (ap₂ ◌++◌ (pick_none s n (λ j q. e j (λ d. omega arith) ∙ l j (omega arith))) (if_b_no (s n) (n ∷ []) [] (ap s (sym k-is) ∙ o))))

-- ---- the walk gives the members, the lowest first

none_listed : (left : ℕ) → left ≡ 0 → length (members_of left) ≡ 0
unfolding members_of
none_listed left e =
    ap (λ m. length (members_of m)) e ∙ ap length (pick_none (member 0) 64 (λ j _. empty_has_none j))

pub one_listed : (left q rest : ℕ) → Taken left q rest → members_of left ≡ q ∷ members_of rest
unfolding members_of lowest_of
one_listed left q rest t =
    pick_first (member left) (member rest) 64 q t.below_64 t.is_in (λ j h. first_below (member left) 64 j (subst (λ k. j < k) t.lowest h)) (ap (λ s. member s q) t.others ∙ removed_is_out left q)
    (λ j d. ap (λ s. member s j) t.others ∙ removed_keeps_others left q j d)

pub members_yield : (left : ℕ) → YieldsList takes_lowest (λ q. q) left (members_of left)
members_yield left = YieldsList-from_shown takes_lowest (λ q. q) members_of (λ s t e. none_listed s e.0) (λ s q t e. one_listed s q t e) left

-- ---- the ends of a chain

fold_is_total : (a : ℕ) (xs : List ℕ) → fold ◌+◌ a xs ≡ a + total xs
unfolding total
fold_is_total a [] = omega arith
fold_is_total a (x ∷ xs) = omega (arith, fold_is_total (a + x) xs)

-- what `.map(f).sum()` gives
pub sum_of_values : (f : ℕ → ℕ) (m : ℕ) → sum (map f (members_of m)) ≡ sum_in f m
unfolding values_in
sum_of_values f m = omega (arith, fold_is_total 0 (map f (members_of m)), total_values f m)

-- what `.all(test)` gives, of the clause `ran` of the call
module _ {F : Type 0} (g : Mut F (ℕ × Unit {0}) Bool) (f : F) (test : ℕ → Bool) (yes : (q : ℕ) (f' : F) → Called g f (q, tt) true f' → (f' ≡ f) × (test q ≡ true))
    (no : (q : ℕ) (f' : F) → Called g f (q, tt) false f' → test q ≡ false) where
  all_walked : (xs : List ℕ) (o : Option ℕ) (r : Bool) (left u : ℕ) (p j : F) → p ≡ f → YieldsThen takes_lowest left xs o u → FoldsTo (λ p x q. Called g p (x, tt) true q) p xs j → MatchOption o (r ≡ true) (λ x. (r ≡ false) × ((h : F) × Called g j (x, tt) false h)) → r ≡ all_in test left
  all_walked [] None r left u p j e y c m = m ∙ sym (ap (all_in test) (y.1 ∙ y.2.0) ∙ all_in_empty test)
  all_walked [] (Some q) r left u p j e y c m =
      let i : member left q ≡ true = ap (λ s. member s q) y.1 ∙ y.2.is_in in
      m.0 ∙ sym (all_in_fails test left q i (no q m.1.0 (subst (λ p'. Called g p' (q, tt) false m.1.0) (sym c ∙ e) m.1.1)))
  all_walked (x ∷ xs) o r left u p j e y c m =
      let (more, (rest, step, on), last) = y in
      let passes = yes x c.0 (subst (λ p'. Called g p' (x, tt) true c.0) e c.1) in
      all_walked xs o r rest u c.0 j passes.0 (more, on, last) c.2 m ∙ sym (all_in_rest test left x passes.1 ∙ ap (all_in test) (sym step.others))

  pub all_from_members : (r : Bool) (left u : ℕ) → (xs : List ℕ) × (o : Option ℕ) × (j : F) × YieldsThen takes_lowest left xs o u × FoldsTo (λ p x q. Called g p (x, tt) true q) f xs j × MatchOption o (r ≡ true) (λ x. (r ≡ false) × ((h : F) × Called g j (x, tt) false h)) → r ≡ all_in test left
  all_from_members r left u (xs, o, j, y, c, m) = all_walked xs o r left u f j refl y c m
