-- The numbers that pass a test, as a list. It is made one number at a time, so each law goes up the numbers: what stands for those below n + 1
-- is what stands for those below n, and n's own where n passes.
-- Assumes nothing.
use Prim.Native.Nat.{ℕ, zero, suc, ◌+◌, ◌≤◌, ◌<◌}
use native.Mathlib.Omega.{arith}
use mathlib.Core.Path.{◌≡◌, refl, sym, ◌∙◌, ap, ap₂}
use native.Mathlib.Decide.{dec_le}
use mathlib.Core.Bool.{Bool, true, false}
use mathlib.Core.List.{List, [], ◌∷◌, ◌++◌, map, map-append, append-nil}
use lib.ListN.{length, length-append}
use Rattle.laws.specs.Choice.{if_b}
use Rattle.laws.specs.Below.{sum_below, count_below, pick_below}
use Rattle.laws.specs.Lists.{total}
use Rattle.laws.proofs.Choice.{if_b_yes, if_b_no, b_elim}

module _ {A : Type 0} (f : ℕ → A) (t : ℕ → Bool) where
  picked_more : (n : ℕ) → map f (pick_below t (suc n)) ≡ map f (pick_below t n) ++ if_b (t n) (f n ∷ []) []
  unfolding pick_below
  picked_more n =
      map-append f (pick_below t n) (if_b (t n) (n ∷ []) [])
      ∙ ap (λ l. map f (pick_below t n) ++ l) (b_elim (λ l. map f l ≡ if_b (t n) (f n ∷ []) []) (t n) (n ∷ []) [] (λ e. sym (if_b_yes (t n) (f n ∷ []) [] e)) (λ e. sym (if_b_no (t n) (f n ∷ []) [] e)))

  -- as many values as numbers that pass
  pub length_picked : (n : ℕ) → length (map f (pick_below t n)) ≡ count_below t n
  unfolding pick_below count_below sum_below
  length_picked zero = refl
  length_picked (suc n) =
      ap length (picked_more n)
      ∙ length-append (map f (pick_below t n)) (if_b (t n) (f n ∷ []) [])
      ∙ ap₂ ◌+◌ (length_picked n) (b_elim (λ l. length l ≡ if_b (t n) 1 0) (t n) (f n ∷ []) [] (λ e. sym (if_b_yes {A = ℕ} (t n) 1 0 e)) (λ e. sym (if_b_no {A = ℕ} (t n) 1 0 e)))

-- two functions that agree on the numbers that pass give the same values
pub picked_same : {A : Type 0} (f g : ℕ → A) (t : ℕ → Bool) (n : ℕ) → ((k : ℕ) → t k ≡ true → f k ≡ g k) → map f (pick_below t n) ≡ map g (pick_below t n)
unfolding pick_below
picked_same f g t zero e = refl
picked_same f g t (suc n) e =
    picked_more f t n
    ∙ ap₂ ◌++◌ (picked_same f g t n e) (b_elim (λ l. l ≡ if_b (t n) (g n ∷ []) []) (t n) (f n ∷ []) [] (λ i. ap (λ x. x ∷ []) (e n i) ∙ sym (if_b_yes (t n) (g n ∷ []) [] i)) (λ o. sym (if_b_no (t n) (g n ∷ []) [] o)))
    ∙ sym (picked_more g t n)

pub total_append : (xs ys : List ℕ) → total (xs ++ ys) ≡ total xs + total ys
unfolding total
total_append [] ys = omega arith
total_append (x ∷ xs) ys = omega (arith, total_append xs ys)

pub total_picked : (f : ℕ → ℕ) (t : ℕ → Bool) (n : ℕ) → total (map f (pick_below t n)) ≡ sum_below (λ k. if_b (t k) (f k) 0) n
unfolding pick_below total sum_below
total_picked f t zero = refl
total_picked f t (suc n) =
    ap total (picked_more f t n)
    ∙ total_append (map f (pick_below t n)) (if_b (t n) (f n ∷ []) [])
    ∙ ap₂ ◌+◌ (total_picked f t n) (b_elim (λ l. total l ≡ if_b (t n) (f n) 0) (t n) (f n ∷ []) [] (λ e. omega (arith, if_b_yes (t n) (f n) 0 e)) (λ e. sym (if_b_no (t n) (f n) 0 e)))

-- two tests that agree below n pick the same numbers
pub pick_same : (s t : ℕ → Bool) (n : ℕ) → ((k : ℕ) → k < n → s k ≡ t k) → pick_below s n ≡ pick_below t n
unfolding pick_below
pick_same s t zero e = refl
pick_same s t (suc n) e =
    ap₂ (λ (l : List ℕ) (b : Bool). l ++ if_b b (n ∷ []) []) (pick_same s t n (λ k h. e k (omega arith))) (e n (omega arith))

-- numbers from n on that fail the test add nothing
pub pick_past : (t : ℕ → Bool) (n m : ℕ) → n ≤ m → ((k : ℕ) → n ≤ k → t k ≡ false) → pick_below t m ≡ pick_below t n
unfolding pick_below
pick_past t n zero h f =
    let e : 0 ≡ n = omega arith in
    ap (pick_below t) e
pick_past t n (suc m) h f = at (dec_le n m) (λ l. pick_past t n m l f)
  where
    at : Dec (n ≤ m) → (n ≤ m → pick_below t m ≡ pick_below t n) → pick_below t m ++ if_b (t m) (m ∷ []) [] ≡ pick_below t n
    at (yes l) r = ap (λ x. pick_below t m ++ x) (if_b_no (t m) (m ∷ []) [] (f m l)) ∙ append-nil (pick_below t m) ∙ r l
    at (no l) r =
        let e : suc m ≡ n = omega arith in
        ap (pick_below t) e
