-- Laws of the words over the numbers below n, four for each loop shape: where the loop starts, one turn more, the way out in the middle, and
-- the end. `aboves` holds them for `search`; the counter is written `n + 1`, as the code has it.
-- Assumes nothing.
use Prim.Native.Nat.{ℕ, zero, suc, ◌+◌, ◌*◌, ◌<◌, ◌≤◌}
use native.Mathlib.Nat.{le_refl, le_antisymm, not-suc-le-zero, lt_irrefl}
use native.Mathlib.Numerals.{add-one}
use native.Mathlib.Omega.{arith}
use native.Mathlib.Decide.{dec_lt}
use mathlib.Core.Path.{◌≡◌, refl, sym, ◌∙◌, ap, ap₂, subst}
use mathlib.Core.Bool.{Bool, true, false}
use mathlib.Core.List.{List, [], ◌∷◌, ◌++◌}
use lib.ListN.{length, get_or, set, length-set, length-append, get_or-append}
use lib.Seq.{get_or-set_same, get_or-set_other, get_or_at, ext_get_or}
use Rattle.laws.specs.Choice.{if_b, both}
use Rattle.laws.specs.Below.{all_below, sum_below, fold_below, first_of, over_below, list_below}
use Rattle.laws.proofs.Choice.{if_b_yes, if_b_no, if_lt_yes, if_lt_no, both_yes, both_left, both_right, lt_elim, b_elim}

-- k below n + 1 is n itself or below n
pub below_split : (P : ℕ → Type 0) (n k : ℕ) → k < suc n → (k < n → P k) → P n → P k
below_split P n k h f p = at (dec_lt k n)
  where
    at : Dec (k < n) → P k
    at (yes l) = f l
    at (no l) =
        let e : n ≡ k = omega arith in
        subst P e p

-- ---- every number below n

pub all_start : (t : ℕ → Bool) → all_below t 0 ≡ true
unfolding all_below
all_start t = refl

pub all_more : (t : ℕ → Bool) (n : ℕ) → all_below t n ≡ true → t n ≡ true → all_below t (n + 1) ≡ true
unfolding all_below
all_more t n p q = rw add-one (both_yes (all_below t n) (t n) p q)

pub all_at : (t : ℕ → Bool) (n : ℕ) → all_below t n ≡ true → (k : ℕ) → k < n → t k ≡ true
unfolding all_below
all_at t zero p k h = absurd (not-suc-le-zero h)
all_at t (suc n) p k h =
    below_split (λ j. t j ≡ true) n k h (all_at t n (both_left (all_below t n) (t n) p) k) (both_right (all_below t n) (t n) p)

pub all_of : (t : ℕ → Bool) (n : ℕ) → ((k : ℕ) → k < n → t k ≡ true) → all_below t n ≡ true
unfolding all_below
all_of t zero f = refl
all_of t (suc n) f = both_yes (all_below t n) (t n) (all_of t n (λ k h. f k (omega arith))) (f n (le_refl (suc n)))

pub all_fails : (t : ℕ → Bool) (n i : ℕ) → i < n → t i ≡ false → false ≡ all_below t n
all_fails t n i h e = go (all_below t n) refl
  where
    go : (b : Bool) → all_below t n ≡ b → false ≡ all_below t n
    go true p = sym e ∙ all_at t n p i h ∙ sym p
    go false p = sym p

pub all_end : (t : ℕ → Bool) (n i : ℕ) → all_below t i ≡ true → i ≤ n → n ≤ i → true ≡ all_below t n
all_end t n i p a b = sym p ∙ ap (all_below t) (le_antisymm a b)

pub all_same : (s t : ℕ → Bool) (n : ℕ) → ((k : ℕ) → k < n → s k ≡ t k) → all_below s n ≡ all_below t n
unfolding all_below
all_same s t zero e = refl
all_same s t (suc n) e = ap₂ both (all_same s t n (λ k h. e k (omega arith))) (e n (le_refl (suc n)))

-- ---- sums

pub sum_start : (f : ℕ → ℕ) → sum_below f 0 ≡ 0
unfolding sum_below
sum_start f = refl

pub sum_more : (f : ℕ → ℕ) (n : ℕ) → sum_below f (n + 1) ≡ sum_below f n + f n
unfolding sum_below
sum_more f n = rw add-one

pub sum_same : (f g : ℕ → ℕ) (n : ℕ) → ((k : ℕ) → k < n → f k ≡ g k) → sum_below f n ≡ sum_below g n
unfolding sum_below
sum_same f g zero e = refl
sum_same f g (suc n) e = ap₂ ◌+◌ (sum_same f g n (λ k h. e k (omega arith))) (e n (le_refl (suc n)))

pub sum_at_most : (f : ℕ → ℕ) (c n : ℕ) → ((k : ℕ) → k < n → f k ≤ c) → sum_below f n ≤ n * c
unfolding sum_below
sum_at_most f c zero b = omega arith
sum_at_most f c (suc n) b = omega (arith, sum_at_most f c n (λ k h. b k (omega arith)), b n (le_refl (suc n)))

pub sum_zero : (f : ℕ → ℕ) (n : ℕ) → ((k : ℕ) → k < n → f k ≡ 0) → sum_below f n ≡ 0
unfolding sum_below
sum_zero f zero e = refl
sum_zero f (suc n) e = omega (arith, sum_zero f n (λ k h. e k (omega arith)), e n (le_refl (suc n)))

pub sum_scaled : (f g : ℕ → ℕ) (c n : ℕ) → ((k : ℕ) → k < n → f k ≤ g k * c) → sum_below f n ≤ sum_below g n * c
unfolding sum_below
sum_scaled f g c zero b = omega arith
sum_scaled f g c (suc n) b = omega (arith, sum_scaled f g c n (λ k h. b k (omega arith)), b n (le_refl (suc n)))

-- two functions that agree but at k: their sums differ by what they give there
pub sum_but_one : (f g : ℕ → ℕ) (n k : ℕ) → k < n → ((j : ℕ) → (j ≡ k → ⊥) → f j ≡ g j) → sum_below f n + g k ≡ sum_below g n + f k
unfolding sum_below
sum_but_one f g zero k h e = absurd (not-suc-le-zero h)
sum_but_one f g (suc n) k h e = at (dec_lt k n) (λ l. sum_but_one f g n k l e)
  where
    at : Dec (k < n) → (k < n → sum_below f n + g k ≡ sum_below g n + f k) → sum_below f n + f n + g k ≡ sum_below g n + g n + f k
    at (yes l) r = omega (arith, r l, e n (λ q. omega arith))
    at (no l) r =
        let q : n ≡ k = omega arith in
        omega (arith, ap f q, ap g q, sum_same f g n (λ j m. e j (λ d. omega arith)))

-- ---- one after the other

pub fold_start : {A : Type 0} (f : ℕ → A → A) (z : A) → fold_below f z 0 ≡ z
unfolding fold_below
fold_start f z = refl

pub fold_more : {A : Type 0} (f : ℕ → A → A) (z : A) (n : ℕ) → fold_below f z (n + 1) ≡ f n (fold_below f z n)
unfolding fold_below
fold_more f z n = rw add-one

pub fold_same : {A : Type 0} (f g : ℕ → A → A) (z : A) (n : ℕ) → ((k : ℕ) → k < n → (x : A) → f k x ≡ g k x) → fold_below f z n ≡ fold_below g z n
unfolding fold_below
fold_same f g z zero e = refl
fold_same f g z (suc n) e = e n (le_refl (suc n)) (fold_below f z n) ∙ ap (g n) (fold_same f g z n (λ k h. e k (omega arith)))

pub fold_keeps : {A : Type 0} (P : A → Type 0) (f : ℕ → A → A) (z : A) (n : ℕ) → P z → ((k : ℕ) → k < n → (x : A) → P x → P (f k x)) → P (fold_below f z n)
unfolding fold_below
fold_keeps P f z zero p k = p
fold_keeps P f z (suc n) p k = k n (le_refl (suc n)) (fold_below f z n) (fold_keeps P f z n p (λ j h. k j (omega arith)))

-- ---- the first that passes a test

pub first_le : (t : ℕ → Bool) (n : ℕ) → first_of t n ≤ n
unfolding first_of
first_le t zero = le_refl zero
first_le t (suc n) =
    lt_elim (λ m. m ≤ suc n) (first_of t n) n (first_of t n) (if_b (t n) n (suc n)) (λ h. omega arith)
    (λ _. b_elim (λ m. m ≤ suc n) (t n) n (suc n) (λ _. omega arith) (λ _. omega arith))

pub first_start : (t : ℕ → Bool) → first_of t 0 ≡ 0
unfolding first_of
first_start t = refl

pub first_more : (t : ℕ → Bool) (n : ℕ) → first_of t n ≡ n → t n ≡ false → first_of t (n + 1) ≡ n + 1
unfolding first_of
first_more t n p e =
    rw add-one
    (if_lt_no (first_of t n) n (first_of t n) (if_b (t n) n (suc n)) (omega arith) ∙ if_b_no (t n) n (suc n) e)

-- where the first below i is known to be none and i passes, it is the first below every n above i
pub first_found : (t : ℕ → Bool) (n i : ℕ) → i < n → first_of t i ≡ i → t i ≡ true → i ≡ first_of t n
unfolding first_of
first_found t zero i h p e = absurd (not-suc-le-zero h)
first_found t (suc n) i h p e =
    below_split (λ j. first_of t j ≡ j → t j ≡ true → j ≡ first_of t (suc n)) n i h
    (λ l p' e'. let q : i ≡ first_of t n = first_found t n i l p' e' in q ∙ sym (if_lt_yes (first_of t n) n (first_of t n) (if_b (t n) n (suc n)) (omega arith)))
    (λ p' e'. sym (if_lt_no (first_of t n) n (first_of t n) (if_b (t n) n (suc n)) (omega arith) ∙ if_b_yes (t n) n (suc n) e'))
    p
    e

pub first_end : (t : ℕ → Bool) (n i : ℕ) → first_of t i ≡ i → i ≤ n → n ≤ i → n ≡ first_of t n
first_end t n i p a b = sym (subst (λ j. first_of t j ≡ j) (le_antisymm a b) p)

-- what a first is: it passes, and nothing below it does
pub first_passes : (t : ℕ → Bool) (n : ℕ) → first_of t n < n → t (first_of t n) ≡ true
unfolding first_of
first_passes t zero h = absurd (not-suc-le-zero h)
first_passes t (suc n) h =
    lt_elim (λ m. m < suc n → t m ≡ true) (first_of t n) n (first_of t n) (if_b (t n) n (suc n)) (λ l _. first_passes t n l)
    (λ _. b_elim (λ m. m < suc n → t m ≡ true) (t n) n (suc n) (λ e _. e) (λ _ l. absurd (lt_irrefl (suc n) l)))
    h

pub first_below : (t : ℕ → Bool) (n k : ℕ) → k < first_of t n → t k ≡ false
unfolding first_of
first_below t zero k h = absurd (not-suc-le-zero h)
first_below t (suc n) k h =
    lt_elim (λ m. k < m → t k ≡ false) (first_of t n) n (first_of t n) (if_b (t n) n (suc n)) (λ _ l. first_below t n k l)
    (λ none. b_elim (λ m. k < m → t k ≡ false) (t n) n (suc n) (λ _ l. first_below t n k (omega arith)) (λ e l. below_split (λ j. t j ≡ false) n k l (λ j. first_below t n k (omega arith)) e))
    h

-- the first is n exactly where none passes
pub first_none : (t : ℕ → Bool) (n : ℕ) → ((k : ℕ) → k < n → t k ≡ false) → first_of t n ≡ n
unfolding first_of
first_none t zero f = refl
first_none t (suc n) f =
    if_lt_no (first_of t n) n (first_of t n) (if_b (t n) n (suc n)) (omega (arith, first_none t n (λ k h. f k (omega arith))))
    ∙ if_b_no (t n) n (suc n) (f n (le_refl (suc n)))

-- ---- the first n entries of a list replaced

module _ {A : Type 0} (f : ℕ → A) where
  pub over_start : (xs : List A) → over_below f 0 xs ≡ xs
  unfolding over_below
  over_start xs = refl

  pub over_more : (n : ℕ) (xs ys : List A) (v : A) → xs ≡ over_below f n ys → v ≡ f n → set xs n v ≡ over_below f (n + 1) ys
  unfolding over_below
  over_more n xs ys v p q = rw add-one (ap₂ (λ (l : List A) (a : A). set l n a) p q)

  pub length_over : (n : ℕ) (xs : List A) → length (over_below f n xs) ≡ length xs
  unfolding over_below
  length_over zero xs = refl
  length_over (suc n) xs = length-set (over_below f n xs) n (f n) ∙ length_over n xs

  pub over_above : (n : ℕ) (xs : List A) (k : ℕ) (d : A) → n ≤ k → get_or (over_below f n xs) k d ≡ get_or xs k d
  unfolding over_below
  over_above zero xs k d h = refl
  over_above (suc n) xs k d h =
      get_or-set_other (over_below f n xs) n k (f n) d (λ e. omega arith) ∙ over_above n xs k d (omega arith)

  pub over_below_lem : (n : ℕ) (xs : List A) (k : ℕ) (d : A) → k < n → k < length xs → get_or (over_below f n xs) k d ≡ f k
  unfolding over_below
  over_below_lem zero xs k d h l = absurd (not-suc-le-zero h)
  over_below_lem (suc n) xs k d h l =
      below_split (λ j. j < length xs → get_or (set (over_below f n xs) n (f n)) j d ≡ f j) n k h
      (λ m l'. get_or-set_other (over_below f n xs) n k (f n) d (λ e. omega arith) ∙ over_below_lem n xs k d m l')
      (λ l'. get_or-set_same (over_below f n xs) n (f n) d (omega (arith, length_over n xs)))
      l

pub over_end : {A : Type 0} (f : ℕ → A) (n i : ℕ) (xs ys : List A) → xs ≡ over_below f i ys → i ≤ n → n ≤ i → xs ≡ over_below f n ys
over_end f n i xs ys p a b = p ∙ ap (λ k. over_below f k ys) (le_antisymm a b)

-- what holds of every entry, and of the one that is put in, holds of every entry afterwards
pub set_keeps : {A : Type 0} (P : A → Type 0) (xs : List A) (i : ℕ) (v d : A) → P v → ((k : ℕ) → P (get_or xs k d)) → (k : ℕ) → P (get_or (set xs i v) k d)
set_keeps P [] i v d new old k = old k
set_keeps P (x ∷ xs) zero v d new old zero = new
set_keeps P (x ∷ xs) zero v d new old (suc k) = old (suc k)
set_keeps P (x ∷ xs) (suc i) v d new old zero = old zero
set_keeps P (x ∷ xs) (suc i) v d new old (suc k) = set_keeps P xs i v d new (λ j. old (suc j)) k

pub over_keeps : {A : Type 0} (P : A → Type 0) (f : ℕ → A) (n : ℕ) (xs : List A) (d : A) → ((k : ℕ) → P (f k)) → ((k : ℕ) → P (get_or xs k d)) → (k : ℕ) → P (get_or (over_below f n xs) k d)
unfolding over_below
over_keeps P f zero xs d new old k = old k
over_keeps P f (suc n) xs d new old k = set_keeps P (over_below f n xs) n (f n) d (new n) (over_keeps P f n xs d new old) k

-- ---- the list of the entries below n

module _ {A : Type 0} (f : ℕ → A) where
  pub length_list : (n : ℕ) → length (list_below f n) ≡ n
  unfolding list_below
  length_list zero = refl
  length_list (suc n) = length-append (list_below f n) (f n ∷ []) ∙ omega (arith, length_list n)

  pub list_at : (n k : ℕ) (d : A) → k < n → get_or (list_below f n) k d ≡ f k
  unfolding list_below
  list_at zero k d h = absurd (not-suc-le-zero h)
  list_at (suc n) k d h =
      below_split (λ j. get_or (list_below f n ++ f n ∷ []) j d ≡ f j) n k h
      (λ l. get_or-append (list_below f n) (f n ∷ []) d k (omega (arith, length_list n)) ∙ list_at n k d l)
      (get_or_at (list_below f n) (f n) [] d n (length_list n))

  -- a list of n entries with f k at every place is that list
  pub list_is : (n : ℕ) (xs : List A) (d : A) → length xs ≡ n → ((k : ℕ) → k < n → get_or xs k d ≡ f k) → xs ≡ list_below f n
  list_is n xs d e h =
      ext_get_or d xs (list_below f n) (e ∙ sym (length_list n)) (λ k l. h k (omega arith) ∙ sym (list_at n k d (omega arith)))

-- every entry replaced
pub over_all : {A : Type 0} (f : ℕ → A) (n : ℕ) (xs : List A) (d : A) → length xs ≡ n → over_below f n xs ≡ list_below f n
over_all f n xs d e =
    list_is f n (over_below f n xs) d (length_over f n xs ∙ e) (λ k h. over_below_lem f n xs k d h (omega arith))

pub ruleset aboves = (all_start, all_more, all_fails, all_end, first_start, first_more, first_found, first_end)
