-- A list that grows at its end, and the same list padded with zeros: an entry stored at the first free place is an entry more.
-- Assumes nothing.
use Prim.Native.Nat.{ℕ, zero, suc, ◌+◌, ◌-◌, ◌<◌, ◌≤◌}
use native.Mathlib.Nat.{not-suc-le-zero}
use native.Mathlib.Omega.{arith}
use mathlib.Core.Path.{◌≡◌, refl, sym, ◌∙◌, ap}
use mathlib.Core.List.{List, [], ◌∷◌, ◌++◌, map, append_assoc}
use lib.ListN.{length, get_or, set, replicate, length-append, length-replicate, get_or-append}
use lib.Seq.{set_at, get_or-append-add}
use Rattle.records.specs.Plan.{padded}

pub map_more : {A B : Type 0} (f : A → B) (xs : List A) (x : A) → map f (xs ++ x ∷ []) ≡ map f xs ++ f x ∷ []
map_more f [] x = refl
map_more f (y ∷ ys) x = ap (λ l. f y ∷ l) (map_more f ys x)

pub length_more : {A : Type 0} (xs : List A) (x : A) → length (xs ++ x ∷ []) ≡ length xs + 1
length_more xs x = length-append xs (x ∷ [])

pub none_is_empty : {A : Type 0} (xs : List A) → length xs ≡ 0 → xs ≡ []
none_is_empty [] e = refl
none_is_empty (x ∷ xs) e = absurd (omega arith)

-- ---- padded with zeros

zeros_first : (n : ℕ) → 0 < n → ◌≡◌ {A = List ℕ} (replicate n 0) (0 ∷ replicate (n - 1) 0)
zeros_first zero h = absurd (not-suc-le-zero h)
zeros_first (suc n) h =
    let e : n ≡ suc n - 1 = omega arith in
    ap (λ k. 0 ∷ replicate k 0) e

pub padded_more : (n : ℕ) (xs : List ℕ) (x : ℕ) → length xs < n → set (padded n xs) (length xs) x ≡ padded n (xs ++ x ∷ [])
unfolding padded
padded_more n xs x h =
    let left : n - length xs - 1 ≡ n - length (xs ++ x ∷ []) = omega (arith, length_more xs x) in
    ap (λ l. set (xs ++ l) (length xs) x) (zeros_first (n - length xs) (omega arith))
    ∙ set_at xs 0 (replicate (n - length xs - 1) 0) x (length xs) refl
    ∙ sym (append_assoc xs (x ∷ []) (replicate (n - length xs - 1) 0))
    ∙ ap (λ k. xs ++ x ∷ [] ++ replicate k 0) left

pub padded_at : (n : ℕ) (xs : List ℕ) (k : ℕ) → k < length xs → get_or (padded n xs) k 0 ≡ get_or xs k 0
unfolding padded
padded_at n xs k h = get_or-append xs (replicate (n - length xs) 0) 0 k h

pub length_padded : (n : ℕ) (xs : List ℕ) → length xs ≤ n → length (padded n xs) ≡ n
unfolding padded
length_padded n xs h =
    length-append xs (replicate (n - length xs) 0) ∙ omega (arith, length-replicate {A = ℕ} (n - length xs) 0)

zero_at : (n k : ℕ) → get_or {A = ℕ} (replicate n 0) k 0 ≡ 0
zero_at zero k = refl
zero_at (suc n) zero = refl
zero_at (suc n) (suc k) = zero_at n k

pub padded_past : (n : ℕ) (xs : List ℕ) (k : ℕ) → length xs ≤ k → get_or (padded n xs) k 0 ≡ 0
unfolding padded
padded_past n xs k h =
    ap (λ i. get_or (xs ++ replicate (n - length xs) 0) i 0) (omega arith)
    ∙ get_or-append-add xs (replicate (n - length xs) 0) (k - length xs) 0
    ∙ zero_at (n - length xs) (k - length xs)
