-- A run of records of equal width, and one byte of each replaced in turn. The byte of the first record is replaced where it stands behind what
-- comes before the run; the others then stand in a shorter run behind a longer beginning.
-- Assumes nothing.
use Prim.Native.Nat.{ℕ, zero, suc, ◌+◌, ◌*◌, ◌<◌}
use native.Mathlib.Nat.{not-suc-le-zero}
use native.Mathlib.Omega.{arith}
use mathlib.Core.Path.{◌≡◌, refl, sym, ◌∙◌, ap}
use mathlib.Core.List.{List, [], ◌∷◌, ◌++◌, map, append_assoc}
use lib.ListN.{length, get_or, set, length-append}
use Rattle.laws.specs.Below.{fold_below}
use Rattle.laws.proofs.Below.{fold_same}

-- ---- lists with one number of each entry replaced

-- each entry changed by put, the i-th with f i
unfoldable pub each_with : {A : Type 0} → (ℕ → A → A) → (ℕ → ℕ) → List A → List A
each_with put f [] = []
each_with put f (x ∷ xs) = put (f 0) x ∷ each_with put (λ i. f (suc i)) xs

module _ {A : Type 0} (put : ℕ → A → A) where
  pub each_length : (f : ℕ → ℕ) (xs : List A) → length (each_with put f xs) ≡ length xs
  unfolding each_with
  each_length f [] = refl
  each_length f (x ∷ xs) = ap suc (each_length (λ i. f (suc i)) xs)

  -- what is put is read back at its place
  pub each_new : (g : A → ℕ) → ((v : ℕ) (x : A) → g (put v x) ≡ v) → (f : ℕ → ℕ) (xs : List A) (i : ℕ) → i < length xs → get_or (map g (each_with put f xs)) i 0 ≡ f i
  unfolding each_with
  each_new g e f [] i h = absurd (not-suc-le-zero h)
  each_new g e f (x ∷ xs) zero h = e (f 0) x
  each_new g e f (x ∷ xs) (suc i) h = each_new g e (λ j. f (suc j)) xs i (omega arith)

  -- and what is not put stays
  pub each_old : (g : A → ℕ) → ((v : ℕ) (x : A) → g (put v x) ≡ g x) → (f : ℕ → ℕ) (xs : List A) → map g (each_with put f xs) ≡ map g xs
  unfolding each_with
  each_old g e f [] = refl
  each_old g e f (x ∷ xs) = λ i. e (f 0) x i ∷ each_old g e (λ j. f (suc j)) xs i

-- ---- the bytes of a run

-- the bytes of entries numbered from `number` on
unfoldable pub run : {A : Type 0} → (ℕ → A → List ℕ) → ℕ → List A → List ℕ
run bytes number [] = []
run bytes number (x ∷ xs) = bytes number x ++ run bytes (suc number) xs

-- the first step of a fold, and then the others
fold_first : {A : Type 0} (f : ℕ → A → A) (z : A) (n : ℕ) → fold_below f z (suc n) ≡ fold_below (λ i. f (suc i)) (f 0 z) n
unfolding fold_below
fold_first f z zero = refl
fold_first f z (suc n) = ap (f (suc n)) (fold_first f z n)

-- an entry replaced behind a beginning
set_behind : (xs ys : List ℕ) (i v : ℕ) → set (xs ++ ys) (length xs + i) v ≡ xs ++ set ys i v
set_behind [] ys i v =
    let e : 0 + i ≡ i = omega arith in
    ap (λ k. set ys k v) e
set_behind (x ∷ xs) ys i v =
    let e : suc (length xs) + i ≡ suc (length xs + i) = omega arith in
    ap (λ k. set (x ∷ xs ++ ys) k v) e ∙ ap (λ l. x ∷ l) (set_behind xs ys i v)

module _ {A : Type 0} (bytes : ℕ → A → List ℕ) (width : ℕ) (wide : (number : ℕ) (x : A) → length (bytes number x) ≡ width) where
  pub run_length : (number : ℕ) (xs : List A) → length (run bytes number xs) ≡ width * length xs
  unfolding run
  run_length number [] = omega arith
  run_length number (x ∷ xs) =
      omega (arith, length-append (bytes number x) (run bytes (suc number) xs), wide number x, run_length (suc number) xs)

  -- the byte at `place` of each record replaced: each record has its entry with that number put
  module _ (place : ℕ) (put : ℕ → A → A) (puts : (number v : ℕ) (x : A) (rest : List ℕ) → set (bytes number x ++ rest) place v ≡ bytes number (put v x) ++ rest) where
    pub run_with :
        (f : ℕ → ℕ) (number start : ℕ) (before : List ℕ) (xs : List A) (after : List ℕ) → start ≡ length before + place
        → fold_below (λ i l. set l (start + width * i) (f i)) (before ++ (run bytes number xs ++ after)) (length xs) ≡ before ++ (run bytes number (each_with put f xs) ++ after)
    unfolding run each_with fold_below
    run_with f number start before [] after e = refl
    run_with f number start before (x ∷ xs) after e =
        fold_first (put_at start f) (before ++ (bytes number x ++ others ++ after)) (length xs)
        ∙ ap (λ z. fold_below (λ i. put_at start f (suc i)) z (length xs)) first
        ∙ fold_same (λ i. put_at start f (suc i)) (put_at (start + width) g) (before ++ new ++ (others ++ after)) (length xs) (λ i _ l. ap (λ k. set l k (f (suc i))) (omega arith))
        ∙ run_with g (suc number) (start + width) (before ++ new) xs after (omega (arith, length-append before new, wide number (put (f 0) x)))
        ∙ append_assoc before new (run bytes (suc number) (each_with put g xs) ++ after)
        ∙ ap (λ l. before ++ l) (sym (append_assoc new (run bytes (suc number) (each_with put g xs)) after))
      where
        put_at : ℕ → (ℕ → ℕ) → ℕ → List ℕ → List ℕ
        put_at from h i l = set l (from + width * i) (h i)

        -- the numbers for the other records, and their bytes before
        g : ℕ → ℕ
        g i = f (suc i)

        others : List ℕ
        others = run bytes (suc number) xs

        new : List ℕ
        new = bytes number (put (f 0) x)

        first : set (before ++ (bytes number x ++ others ++ after)) (start + width * 0) (f 0) ≡ before ++ new ++ (others ++ after)
        first =
            ap (λ k. set (before ++ (bytes number x ++ others ++ after)) k (f 0)) (omega arith)
            ∙ set_behind before (bytes number x ++ others ++ after) place (f 0)
            ∙ ap (λ l. before ++ set l place (f 0)) (append_assoc (bytes number x) others after)
            ∙ ap (λ l. before ++ l) (puts number (f 0) x (others ++ after))
            ∙ sym (append_assoc before new (others ++ after))
