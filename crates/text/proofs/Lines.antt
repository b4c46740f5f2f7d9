-- Text grows at its end: one byte more of a word, and one field more of a line, stand behind those before it.
-- Assumes nothing.
use Prim.Native.Nat.{ℕ, suc, ◌+◌, ◌*◌, ◌^◌, ◌<◌, ◌≤◌}
use native.Mathlib.Nat.{mul-suc}
use native.Mathlib.Numerals.{add-one}
use native.Mathlib.Omega.{arith}
use mathlib.Core.Path.{◌≡◌, refl, sym, ◌∙◌, ap}
use mathlib.Core.List.{List, [], ◌∷◌, ◌++◌, append_assoc, append-nil}
use lib.ListN.{length, get_or, take, length-append}
use lib.Seq.{take-suc}
use Rattle.text.specs.Lines.{decimal, fields, line}
use Rattle.text.proofs.Decimal.{short}

pub take_more : (bytes : List ℕ) (i : ℕ) → i < length bytes → take (i + 1) bytes ≡ take i bytes ++ get_or bytes i 0 ∷ []
take_more bytes i h = rw add-one (take-suc bytes i 0 h)

pub fields_append : (ms ns : List ℕ) → fields (ms ++ ns) ≡ fields ms ++ fields ns
unfolding fields
fields_append [] ns = refl
fields_append (m ∷ ms) ns =
    ap (λ rest. 32 ∷ decimal m ++ rest) (fields_append ms ns) ∙ sym (append_assoc (32 ∷ decimal m) (fields ms) (fields ns))

-- a field is a blank and the number's digits
pub field_is : (n : ℕ) → 32 ∷ [] ++ decimal n ≡ fields (n ∷ [])
unfolding fields
field_is n = sym (append-nil (32 ∷ decimal n))

pub field_more : (ns : List ℕ) (i : ℕ) → i < length ns → fields (take (i + 1) ns) ≡ fields (take i ns) ++ fields (get_or ns i 0 ∷ [])
field_more ns i h = ap fields (take_more ns i h) ∙ fields_append (take i ns) (get_or ns i 0 ∷ [])

-- ---- how long a line is

-- every number is below the limit
unfoldable pub EachBelow : ℕ → List ℕ → Type 0
EachBelow limit [] = Unit {0}
EachBelow limit (n ∷ ns) = (n < limit) × EachBelow limit ns

pub fields_length : (k : ℕ) (ns : List ℕ) → EachBelow (10 ^ suc k) ns → length (fields ns) ≤ (k + 2) * length ns
unfolding fields EachBelow
fields_length k [] h = omega arith
fields_length k (n ∷ ns) h =
    omega (arith, length-append (32 ∷ decimal n) (fields ns), short k n h.0, fields_length k ns h.1, mul-suc (k + 2) (length ns))

-- numbers of at most k + 1 digits take at most k + 2 bytes each
pub line_length : (k : ℕ) (name ns : List ℕ) → EachBelow (10 ^ suc k) ns → length (line name ns) ≤ length name + (k + 2) * length ns + 1
unfolding line
line_length k name ns h =
    omega (arith, length-append (name ++ fields ns) (10 ∷ []), length-append name (fields ns), fields_length k ns h)
