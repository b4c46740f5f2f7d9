-- Faults gathered by `fold`: the union over a list is 0 exactly where the fault of each entry is. So too over the first entries of a list, and
-- over two lists side by side.
-- Assumes nothing.
use Prim.Native.Nat.{ℕ, zero, suc, ◌+◌, ◌-◌, ◌*◌, ◌<◌, ◌≤◌}
use native.Mathlib.Nat.{le_refl, not-suc-le-zero}
use native.Mathlib.Decide.{dec_lt}
use native.Mathlib.Omega.{arith}
use mathlib.Core.Path.{◌≡◌, refl, sym, ◌∙◌, ap, subst}
use mathlib.Core.Bool.{Bool, true, false}
use mathlib.Core.List.{List, [], ◌∷◌}
use lib.Bits.{bit_or}
use lib.Dec.{eqb}
use lib.ListN.{length, get_or, take, drop}
use lib.Seq.{take-suc, take-length, get_or-take, get_or-drop}
use Rattle.std.specs.Prelude.{◌&&◌}
use Rattle.std.specs.List.{fold, list_all, zip}
use Rattle.std.proofs.lemmas.List.Folds.{list_all-append}
use Rattle.std.specs.Simd.{first_chunks}
use Rattle.std.proofs.lemmas.List.Sums.{fold-append}
use Rattle.std.proofs.lemmas.Slice.Zip.{length-zip, get_or-zip}
use Rattle.laws.specs.Choice.{if_b, both}
use Rattle.laws.specs.Below.{all_below}
use Rattle.laws.proofs.Choice.{both_yes, both_left, both_right, same_test}
use Rattle.laws.proofs.Below.{all_at, all_of, all_same}
use Rattle.laws.proofs.Faults.{faults_or}

module _ {A : Type 0} (g : A → ℕ) where
  pub gathered : (xs : List A) (d : A) (n : ℕ) → n ≤ length xs → eqb (fold (λ f x. bit_or f (g x)) 0 (take n xs)) 0 ≡ all_below (λ k. eqb (g (get_or xs k d)) 0) n
  unfolding all_below
  gathered xs d zero h = refl
  gathered xs d (suc n) h =
      ap (λ l. eqb (fold (λ f x. bit_or f (g x)) 0 l) 0) (take-suc xs n d (omega arith))
      ∙ ap (λ v. eqb v 0) (fold-append (λ f x. bit_or f (g x)) 0 (take n xs) (get_or xs n d ∷ []))
      ∙ faults_or _ _ _ _ (gathered xs d n (omega arith)) refl

  pub gathered_whole : (xs : List A) (d : A) (n : ℕ) → length xs ≡ n → eqb (fold (λ f x. bit_or f (g x)) 0 xs) 0 ≡ all_below (λ k. eqb (g (get_or xs k d)) 0) n
  gathered_whole xs d n e =
      ap (λ l. eqb (fold (λ f x. bit_or f (g x)) 0 l) 0) (sym (take-length xs)) ∙ gathered xs d (length xs) (le_refl (length xs)) ∙ ap (all_below (λ k. eqb (g (get_or xs k d)) 0)) e

pub gathered_pairs : {A B : Type 0} (g : A × B → ℕ) (xs : List A) (ys : List B) (d : A) (e : B) (n : ℕ) → length xs ≡ n → length ys ≡ n → eqb (fold (λ f x. bit_or f (g x)) 0 (zip xs ys)) 0 ≡ all_below (λ k. eqb (g (get_or xs k d, get_or ys k e)) 0) n
gathered_pairs g xs ys d e n p q =
    gathered_whole g (zip xs ys) (d, e) n (length-zip xs ys ∙ omega arith)
    ∙ all_same _ _ n (λ k h. ap (λ x. eqb (g x) 0) (get_or-zip xs ys k (d, e) (omega arith) (omega arith)))

-- what holds of the first u numbers, and of the m after them, holds of all u + m
pub all_joined : (t : ℕ → Bool) (u m : ℕ) → both (all_below t u) (all_below (λ j. t (u + j)) m) ≡ all_below t (u + m)
all_joined t u m =
    same_test _ _ (λ a. all_of t (u + m) (λ k h. at k h (both_left _ _ a) (both_right _ _ a) (dec_lt k u)))
    (λ a. both_yes _ _ (all_of t u (λ k h. all_at t (u + m) a k (omega arith))) (all_of _ m (λ j h. all_at t (u + m) a (u + j) (omega arith))))
  where
    at : (k : ℕ) → k < u + m → all_below t u ≡ true → all_below (λ j. t (u + j)) m ≡ true → Dec (k < u) → t k ≡ true
    at k h a b (yes l) = all_at t u a k l
    at k h a b (no o) =
        let same : u + (k - u) ≡ k = omega arith in
        subst (λ j. t j ≡ true) same (all_at (λ j. t (u + j)) m b (k - u) (omega arith))

-- ---- a test of every entry, and of every pair of entries side by side

and_both : (a b : Bool) → (a && (b && true)) ≡ both a b
unfolding both if_b
and_both true true = refl
and_both true false = refl
and_both false true = refl
and_both false false = refl

pub listed : {A : Type 0} (p : A → Bool) (xs : List A) (d : A) (n : ℕ) → length xs ≡ n → list_all p xs ≡ all_below (λ k. p (get_or xs k d)) n
unfolding all_below both if_b
listed p xs d n e = ap (list_all p) (sym (take-length xs)) ∙ up (length xs) (le_refl (length xs)) ∙ ap (all_below (λ k. p (get_or xs k d))) e
  where
    up : (m : ℕ) → m ≤ length xs → list_all p (take m xs) ≡ all_below (λ k. p (get_or xs k d)) m
    up zero h = refl
    up (suc m) h = ap (list_all p) (take-suc xs m d (omega arith)) ∙ list_all-append p (take m xs) (get_or xs m d ∷ []) ∙ and_both _ _ ∙ ap (λ b. both b (p (get_or xs m d))) (up m (omega arith))

pub listed_pairs : {A B : Type 0} (p : A × B → Bool) (xs : List A) (ys : List B) (d : A) (e : B) (n : ℕ) → length xs ≡ n → length ys ≡ n → list_all p (zip xs ys) ≡ all_below (λ k. p (get_or xs k d, get_or ys k e)) n
listed_pairs p xs ys d e n a b =
    listed p (zip xs ys) (d, e) n (length-zip xs ys ∙ omega arith)
    ∙ all_same _ _ n (λ k h. ap p (get_or-zip xs ys k (d, e) (omega arith) (omega arith)))

-- ---- a list cut into rows

pub length-chunks : (n k : ℕ) (xs : List ℕ) → length (first_chunks n k xs) ≡ k
length-chunks n zero xs = refl
length-chunks n (suc k) xs = ap suc (length-chunks n k (drop n xs))

pub chunk_at : (n k : ℕ) (xs : List ℕ) (i x : ℕ) → i < k → x < n → get_or (get_or (first_chunks n k xs) i []) x 0 ≡ get_or xs (i * n + x) 0
chunk_at n zero xs i x h l = absurd (not-suc-le-zero h)
chunk_at n (suc k) xs zero x h l = get_or-take n xs x 0 l ∙ ap (λ j. get_or xs j 0) (omega arith)
chunk_at n (suc k) xs (suc i) x h l = chunk_at n k (drop n xs) i x (omega arith) l ∙ get_or-drop n xs (i * n + x) 0 ∙ ap (λ j. get_or xs j 0) (omega arith)
