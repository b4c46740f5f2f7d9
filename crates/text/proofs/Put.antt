-- How writes go together: text written in two calls, the second where the first stopped, is the two texts written in one. So a line, and a
-- page of lines, is one text, however many calls wrote it; and text that fits stands whole at its place with the rest of the buffer as before.
-- Assumes nothing.
use Prim.Native.Nat.{ℕ, suc, ◌+◌, ◌<◌, ◌≤◌}
use native.Mathlib.Nat.{zero-add, add-zero, add-suc, suc-add}
use native.Mathlib.Omega.{arith}
use native.Mathlib.Decide.{dec_lt}
use mathlib.Core.Path.{◌≡◌, refl, sym, ◌∙◌, ap}
use mathlib.Core.List.{List, [], ◌∷◌, ◌++◌}
use lib.ListN.{length, take, drop, set, length-append}
use lib.Seq.{set_out, length-sets, sets-eq}
use Rattle.text.specs.Put.{with_text, Put}

-- ---- the buffer

pub length_with : (out : List ℕ) (at : ℕ) (text : List ℕ) → length (with_text out at text) ≡ length out
unfolding with_text
length_with out at text = length-sets out at text

-- past the end nothing is set
pub with_past_end : (out : List ℕ) (at : ℕ) (text : List ℕ) → length out ≤ at → with_text out at text ≡ out
unfolding with_text
with_past_end out at [] h = refl
with_past_end out at (b ∷ text) h =
    ap (λ xs. with_text xs (suc at) text) (set_out out at b h) ∙ with_past_end out (suc at) text (omega arith)

pub with_append : (out : List ℕ) (at : ℕ) (one two : List ℕ) → with_text (with_text out at one) (at + length one) two ≡ with_text out at (one ++ two)
unfolding with_text
with_append out at [] two = rw add-zero
with_append out at (b ∷ one) two =
    ap (λ place. with_text (with_text (set out at b) (suc at) one) place two) (add-suc at (length one) ∙ sym (suc-add at (length one)))
    ∙ with_append (set out at b) (suc at) one two

-- ---- a write, and one after the other

pub put_none : (out : List ℕ) (at : ℕ) → Put out at [] at out
unfolding with_text
put_none out at = record { place = omega arith; held = refl }

pub put_length : {before after text : List ℕ} {at next : ℕ} → Put before at text next after → length after ≡ length before
put_length {before} {after} {text} {at} p = ap length p.held ∙ length_with before at text

-- the promise of a write allows one place and one buffer
pub put_unique : {before after after' text : List ℕ} {at next next' : ℕ} → Put before at text next after → Put before at text next' after' → (next ≡ next') × (after ≡ after')
put_unique p q = (p.place ∙ sym q.place, p.held ∙ sym q.held)

pub put_then : {before between after one two : List ℕ} {at mid next : ℕ} → Put before at one mid between → Put between mid two next after → Put before at (one ++ two) next after
put_then {before} {between} {after} {one} {two} {at} {mid} {next} p q =
    record {
      place = omega (arith, p.place, q.place, put_length p, length-append one two);
      held = q.held ∙ ap (λ xs. with_text xs mid two) p.held ∙ go (dec_lt (length before) (at + length one));
    }
  where
    go : Dec (length before < at + length one) → with_text (with_text before at one) mid two ≡ with_text before at (one ++ two)
    go (yes over) =
        with_past_end (with_text before at one) mid two (omega (arith, p.place, length_with before at one))
        ∙ sym (with_past_end (with_text before at one) (at + length one) two (omega (arith, length_with before at one)))
        ∙ with_append before at one two
    go (no room) =
        let e : mid ≡ at + length one = omega (arith, p.place) in
        ap (λ place. with_text (with_text before at one) place two) e ∙ with_append before at one two

-- ---- text that fits

pub with_fits : (out : List ℕ) (at : ℕ) (text : List ℕ) → at + length text ≤ length out → with_text out at text ≡ take at out ++ text ++ drop (at + length text) out
unfolding with_text
with_fits out at text h = sets-eq text out at h

-- at the start of a buffer with room for it: the text, and then the buffer as before
pub put_fits : {before after text : List ℕ} {next : ℕ} → Put before 0 text next after → length text ≤ length before → (next ≡ length text) × (after ≡ text ++ drop (length text) before)
put_fits {before} {after} {text} p h = (
  omega (arith, p.place),
  p.held ∙ with_fits before 0 text (omega arith) ∙ ap (λ n. text ++ drop n before) (zero-add (length text)),
)
