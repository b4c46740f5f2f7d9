-- `read_all`: what one more read brought stands behind what was there, and the reader gave both one after the other.
-- Assumes nothing.
use Rattle.std.proofs.Common.{◌≡◌, ℕ, ◌+◌, ◌-◌, ◌≤◌, List, ◌++◌, length, take, drop, Result, Ok, Err, MatchResult, length-append, arith, sym, ap, ap₂, ◌∙◌, subst}
use borrow.Rule.Slice.PartMut.{put_mid, post_of}
use lib.Seq.{drop_at}
use Rattle.std.proofs.Math.Seq.{take-add}
use Rattle.std.proofs.lemmas.List.{take-append-le, length-take-le}
use Rattle.std.proofs.lemmas.Slice.{take-put_mid_below}
use Rattle.std.proofs.KnownBytes.{Consumes-trans}
use Rattle.std.specs.Io.KnownBytes.{Consumes}
use Rattle.input.proofs.read_all.Goals as goal

-- the failure alone is mapped, so the read itself brought the bytes
brought : {E : Type 0} (D : Type 0) (r : Result ℕ E) (n : ℕ) → MatchResult r (λ x. ◌≡◌ {A = Result ℕ D} (Ok n) (Ok x)) (λ _. ⊥) → r ≡ Ok n
brought D (Ok x) n h = cc
brought D (Err e) n h = absurd h

-- the first bytes of a buffer whose end was read into
read_into : (have n : ℕ) (old part : List ℕ) → have ≤ length old → n ≤ length part → take have old ++ take n part ≡ take (have + n) (put_mid have (length old - have) old part)
read_into have n old part h m =
    let new = put_mid have (length old - have) old part in
    let behind : drop have new ≡ part ++ post_of have (length old - have) old = drop_at (take have old) (part ++ post_of have (length old - have) old) have (length-take-le have old h) in
    ap₂ ◌++◌ (sym (take-put_mid_below have (length old - have) old part have (omega arith) h)) (sym (take-append-le n part _ m) ∙ ap (take n) (sym behind))
    ∙ sym (take-add have n new)

long : (have n : ℕ) (old part : List ℕ) → have ≤ length old → n ≤ length part → have + n ≤ length (put_mid have (length old - have) old part)
long have n old part h m =
    let behind = post_of have (length old - have) old in
    omega (arith, length-append (take have old) (part ++ behind), length-append part behind, length-take-le have old h)

pub loop-have-preserved : goal.loop-have-preserved
loop-have-preserved g c =
    let is = brought _ c.read.result c.in_ok-count.count c.in_ok-count.ensures.cases in
    let bound = rw is at c.read.ensures.bound in
    let bytes = rw is at c.read.ensures.bytes in
    let have = c.loop-have.have in
    record {
      within = long have c.in_ok-count.count c.loop-have.buffer c.read.new.buf c.loop-have.invariant.within bound.0;
      read = subst (Consumes _ _) (read_into have c.in_ok-count.count c.loop-have.buffer c.read.new.buf c.loop-have.invariant.within bound.0) (Consumes-trans _ _ _ _ _ c.loop-have.invariant.read bytes.0);
    }
