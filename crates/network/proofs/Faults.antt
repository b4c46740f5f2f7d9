-- Faults of a list gathered by `fold`: the number that is gathered is 0 exactly where every entry passes.
-- Assumes nothing.
use Prim.Native.Nat.{ℕ, zero, suc, ◌<◌, ◌≤◌}
use native.Mathlib.Omega.{arith}
use mathlib.Core.Path.{◌≡◌, refl, sym, ◌∙◌, ap}
use mathlib.Core.Bool.{Bool, true, false, not}
use mathlib.Core.List.{List, [], ◌∷◌}
use mir.Val.{bool_byte}
use lib.Bits.{bit_or}
use lib.Dec.{ltb, eqb}
use lib.ListN.{length, get_or, take}
use Rattle.std.proofs.lemmas.List.{length-take-le, get_or-take}
use Rattle.std.specs.List.{fold, zip}
use Rattle.std.proofs.lemmas.Slice.Zip.{length-zip, get_or-zip}
use Rattle.laws.specs.Choice.{both}
use Rattle.laws.specs.Below.{all_below}
use Rattle.laws.proofs.Choice.{if_lt_yes, both_yes, both_left, both_right, same_test}
use Rattle.laws.proofs.Below.{all_start, all_at, all_of, all_same}
use Rattle.laws.proofs.Faults.{faults_or}
use Rattle.network.specs.Valid.{node_fits}

-- a test as a fault: 0 where it holds
pub unfaulted : (passes : Bool) → eqb (bool_byte (not passes)) 0 ≡ passes
unfaulted true = refl
unfaulted false = refl

both_true : (b : Bool) → b ≡ both b true
both_true b = same_test b (both b true) (λ e. both_yes b true e refl) (λ e. both_left b true e)

regrouped : (a b c : Bool) → both (both a b) c ≡ both a (both b c)
regrouped a b c =
    same_test (both (both a b) c) (both a (both b c))
    (λ e. let f = both_left (both a b) c e in both_yes a (both b c) (both_left a b f) (both_yes b c (both_right a b f) (both_right (both a b) c e)))
    (λ e. let f = both_right a (both b c) e in both_yes (both a b) c (both_yes a b (both_left a (both b c) e) (both_left b c f)) (both_right b c f))

module _ {A : Type 0} (fault : A → ℕ) (passes : A → Bool) (none : A) (is : (x : A) → eqb (fault x) 0 ≡ passes x) where
  abbrev each : List A → Bool
  each xs = all_below (λ k. passes (get_or xs k none)) (length xs)

  first_and_rest : (x : A) (xs : List A) → both (passes x) (each xs) ≡ each (x ∷ xs)
  first_and_rest x xs =
      same_test (both (passes x) (each xs)) (each (x ∷ xs)) (λ e. all_of (λ k. passes (get_or (x ∷ xs) k none)) (length (x ∷ xs)) (front e))
      (λ e. both_yes (passes x) (each xs) (all_at (λ k. passes (get_or (x ∷ xs) k none)) (length (x ∷ xs)) e 0 (omega arith)) (all_of (λ k. passes (get_or xs k none)) (length xs) (λ k h. all_at (λ j. passes (get_or (x ∷ xs) j none)) (length (x ∷ xs)) e (suc k) (omega arith))))
    where
      front : both (passes x) (each xs) ≡ true → (k : ℕ) → k < length (x ∷ xs) → passes (get_or (x ∷ xs) k none) ≡ true
      front e zero h = both_left (passes x) (each xs) e
      front e (suc k) h = all_at (λ j. passes (get_or xs j none)) (length xs) (both_right (passes x) (each xs) e) k (omega arith)

  pub gathered : (faults : ℕ) (before : Bool) (xs : List A) → eqb faults 0 ≡ before → eqb (fold (λ f x. bit_or f (fault x)) faults xs) 0 ≡ both before (each xs)
  gathered faults before [] e = e ∙ both_true before ∙ ap (both before) (sym (all_start (λ k. passes (get_or [] k none))))
  gathered faults before (x ∷ xs) e =
      gathered (bit_or faults (fault x)) (both before (passes x)) xs (faults_or faults (fault x) before (passes x) e (is x))
      ∙ regrouped before (passes x) (each xs)
      ∙ ap (both before) (first_and_rest x xs)

  pub all_gathered : (xs : List A) → eqb (fold (λ f x. bit_or f (fault x)) 0 xs) 0 ≡ each xs
  all_gathered xs =
      gathered 0 true xs refl ∙ same_test (both true (each xs)) (each xs) (both_right true (each xs)) (both_yes true (each xs) refl)

-- of two lists of one length, place by place
pub both_lists : {A B : Type 0} (passes : A × B → Bool) (xs : List A) (ys : List B) (a : A) (b : B) (n : ℕ) → length xs ≡ n → length ys ≡ n → all_below (λ k. passes (get_or (zip xs ys) k (a, b))) (length (zip xs ys)) ≡ all_below (λ k. passes (get_or xs k a, get_or ys k b)) n
both_lists passes xs ys a b n p q =
    let long : length (zip xs ys) ≡ n = omega (arith, length-zip xs ys) in
    ap (all_below (λ k. passes (get_or (zip xs ys) k (a, b)))) long
    ∙ all_same (λ k. passes (get_or (zip xs ys) k (a, b))) (λ k. passes (get_or xs k a, get_or ys k b)) n (λ k h. ap passes (get_or-zip xs ys k (a, b) (omega arith) (omega arith)))

-- the nodes in use fit where their parents are below the count
pub parents_in_use : (nodes : ℕ) (parents starts : List ℕ) → nodes ≤ length parents → all_below (λ p. ltb (get_or (take nodes parents) p 0) nodes) (length (take nodes parents)) ≡ all_below (λ p. node_fits nodes p (get_or parents p 0) (get_or starts p 0)) nodes
unfolding node_fits
parents_in_use nodes parents starts h =
    ap (all_below (λ p. ltb (get_or (take nodes parents) p 0) nodes)) (length-take-le nodes parents h)
    ∙ all_same (λ p. ltb (get_or (take nodes parents) p 0) nodes) (λ p. node_fits nodes p (get_or parents p 0) (get_or starts p 0)) nodes (λ p l. ap (λ x. ltb x nodes) (get_or-take nodes parents p 0 l) ∙ sym (if_lt_yes p nodes _ _ l))
