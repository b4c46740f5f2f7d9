-- One entry of a list replaced, and lists of one value: what holds at each place.
-- Assumes nothing.
use Prim.Native.Nat.{ℕ, zero, suc, ◌<◌}
use mathlib.Core.Path.{◌≡◌, refl, ◌∙◌, ap}
use mathlib.Core.List.{List, [], ◌∷◌}
use lib.ListN.{length, get_or, set, replicate}
use lib.Seq.{get_or-set_same}

-- what holds of the entry at every place, and at its place of the one that is put in, holds at every place afterwards
pub set_keeps_at : {A : Type 0} (P : ℕ → A → Type 0) (xs : List A) (i : ℕ) (v d : A) → P i v → ((k : ℕ) → P k (get_or xs k d)) → (k : ℕ) → P k (get_or (set xs i v) k d)
set_keeps_at P [] i v d new old k = old k
set_keeps_at P (x ∷ xs) zero v d new old zero = new
set_keeps_at P (x ∷ xs) zero v d new old (suc k) = old (suc k)
set_keeps_at P (x ∷ xs) (suc i) v d new old zero = old zero
set_keeps_at P (x ∷ xs) (suc i) v d new old (suc k) = set_keeps_at (λ j. P (suc j)) xs i v d new (λ j. old (suc j)) k

-- the entry that is put in, by any name of its place
pub set_here : {A : Type 0} (xs : List A) (i k : ℕ) (v d : A) → k ≡ i → i < length xs → get_or (set xs i v) k d ≡ v
set_here xs i k v d e h = ap (λ x. get_or (set xs i v) x d) e ∙ get_or-set_same xs i v d h

-- the same value everywhere, past the end too
pub repeated_at : {A : Type 0} (n : ℕ) (a : A) (k : ℕ) → get_or (replicate n a) k a ≡ a
repeated_at zero a k = refl
repeated_at (suc n) a zero = refl
repeated_at (suc n) a (suc k) = repeated_at n a k
