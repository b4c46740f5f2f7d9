-- What the reader reads is what the bytes hold, and nothing past the record counts: `read_holds` and `holds_read` say that the definition by
-- tests and the one for people are the same, so a record depends on its own bytes alone, wherever they stand.
-- Assumes nothing.
use Prim.Native.Nat.{ℕ, ◌+◌, ◌-◌, ◌<◌, ◌≤◌}
use native.Mathlib.Nat.{add_assoc, add-zero}
use native.Mathlib.Omega.{arith}
use mathlib.Core.Path.{◌≡◌, sym, ◌∙◌, ap, subst}
use mathlib.Core.List.{List}
use lib.ListN.{length, get_or, take, drop, length-take, length-drop}
use lib.Seq.{get_or-take, get_or-drop}
use Rattle.std.specs.Prelude.{Result, Ok, Err}
use Rattle.answers.specs.declared.Refusal.{Refusal}
use Rattle.answers.specs.declared.Refusal.TheVariants.{ActionUnknown, ActionCutShort}
use Rattle.laws.specs.Choice.{if_lt}
use Rattle.laws.proofs.Choice.{lt_elim, if_lt_yes, if_lt_no}
use Rattle.actions.specs.declared.Kind.{Kind}
use Rattle.actions.specs.declared.Act.{Act}
use Rattle.actions.specs.Kinds.{number_of, kinds, index_of, kind_at}
use Rattle.actions.specs.Records.{body_of, kind_from, act, act_at, read_at, Holds}
use Rattle.actions.proofs.Numbers.{seated, number_from_16, number_at, body_one_or_two}

-- ---- the kind of a number

-- what is done with a kind that was read; a number that is none's is refused
with_kind : (Kind → Result Act Refusal) → Result Kind Refusal → Result Act Refusal
with_kind f (Ok k) = f k
with_kind f (Err e) = Err e

-- what is done with a choice is done with what it picks
done_with : {A B : Type 0} (f : A → B) (a b : ℕ) (x y : A) → f (if_lt a b x y) ≡ if_lt a b (f x) (f y)
done_with f a b x y =
    lt_elim (λ z. f z ≡ if_lt a b (f x) (f y)) a b x y (λ h. sym (if_lt_yes a b (f x) (f y) h)) (λ h. sym (if_lt_no a b (f x) (f y) h))

read_with : (s : List ℕ) (at : ℕ) → at < length s → with_kind (act_at s at) (kind_from (get_or s at 0)) ≡ read_at s at
unfolding read_at kind_from with_kind
read_with s at h =
    let n = get_or s at 0 in
    let f : Result Kind Refusal → Result Act Refusal = with_kind (act_at s at) in
    done_with f n 16 (Err ActionUnknown) (if_lt (n - 16) (length kinds) (Ok (kind_at (n - 16))) (Err ActionUnknown))
    ∙ ap (if_lt n 16 (Err ActionUnknown)) (done_with f (n - 16) (length kinds) (Ok (kind_at (n - 16))) (Err ActionUnknown))
    ∙ sym (if_lt_yes at (length s) _ _ h)

pub none_known : (s : List ℕ) (at : ℕ) (e : Refusal) → at < length s → Err e ≡ kind_from (get_or s at 0) → Err e ≡ read_at s at
unfolding with_kind
none_known s at e h p = ap (with_kind (act_at s at)) p ∙ read_with s at h

pub one_known : (s : List ℕ) (at : ℕ) (k : Kind) → at < length s → Ok k ≡ kind_from (get_or s at 0) → act_at s at k ≡ read_at s at
unfolding with_kind
one_known s at k h p = ap (with_kind (act_at s at)) p ∙ read_with s at h

-- ---- the record at a place

refused_no_act : {A : Type 0} {k : Kind} {p q w : ℕ} (e : Refusal) → ◌≡◌ {A = Result Act Refusal} (Err e) (Ok (act k p q w)) → A
refused_no_act r e =
    let z : ◌≡◌ {A = ℕ} 0 1 = cc in
    absurd (omega arith)

module _ (s : List ℕ) (at : ℕ) (k : Kind) (p q w : ℕ) where
  act_holds : (i : ℕ) → i < length kinds → get_or s at 0 ≡ 16 + i → act_at s at (kind_at i) ≡ Ok (act k p q w) → Holds s at k p q w
  unfolding act_at
  act_holds i h n =
      lt_elim (λ r. r ≡ Ok (act k p q w) → Holds s at k p q w) (at + body_of (kind_at i)) (length s) (Ok (act (kind_at i) (get_or s (at + 1) 0) (get_or s (at + body_of (kind_at i)) 0) (body_of (kind_at i) + 1))) (Err ActionCutShort) (λ fits e. found fits (same e)) (λ _ e. refused_no_act ActionCutShort e)
    where
      here : Act
      here = act (kind_at i) (get_or s (at + 1) 0) (get_or s (at + body_of (kind_at i)) 0) (body_of (kind_at i) + 1)

      same : ◌≡◌ {A = Result Act Refusal} (Ok here) (Ok (act k p q w)) → here ≡ act k p q w
      same e = cc

      found : at + body_of (kind_at i) < length s → here ≡ act k p q w → Holds s at k p q w
      found fits e =
          let kind : kind_at i ≡ k = ap (λ (a : Act). a.kind) e in
          let width : body_of (kind_at i) + 1 ≡ w = ap (λ (a : Act). a.width) e in
          record {
            within = omega arith;
            kind = n ∙ sym (number_at i h) ∙ ap number_of kind;
            whole = sym width ∙ ap (λ j. body_of j + 1) kind;
            first = ap (λ (a : Act). a.p) e;
            last = ap (λ j. get_or s (at + body_of j) 0) (sym kind) ∙ ap (λ (a : Act). a.q) e;
          }

  -- what is read is there
  pub read_holds : read_at s at ≡ Ok (act k p q w) → Holds s at k p q w
  unfolding read_at
  read_holds =
      lt_elim P at (length s) (if_lt (get_or s at 0) 16 (Err ActionUnknown) later) (Err ActionCutShort) (λ _. lt_elim P (get_or s at 0) 16 (Err ActionUnknown) later (λ _ e. refused_no_act ActionUnknown e) (λ from. lt_elim P (get_or s at 0 - 16) (length kinds) (act_at s at (kind_at (get_or s at 0 - 16))) (Err ActionUnknown) (λ h. act_holds (get_or s at 0 - 16) h (omega arith)) (λ _ e. refused_no_act ActionUnknown e))) (λ _ e. refused_no_act ActionCutShort e)
    where
      P : Result Act Refusal → Type 0
      P r = r ≡ Ok (act k p q w) → Holds s at k p q w

      later : Result Act Refusal
      later = if_lt (get_or s at 0 - 16) (length kinds) (act_at s at (kind_at (get_or s at 0 - 16))) (Err ActionUnknown)

  -- what is there is read
  pub holds_read : Holds s at k p q w → read_at s at ≡ Ok (act k p q w)
  unfolding read_at act_at index_of
  holds_read h =
      lt_elim P at (length s) (if_lt (get_or s at 0) 16 (Err ActionUnknown) later) (Err ActionCutShort) (λ _. lt_elim P (get_or s at 0) 16 (Err ActionUnknown) later (λ l. absurd (omega (arith, h.kind, number_from_16 k))) (λ _. lt_elim P (get_or s at 0 - 16) (length kinds) (act_at s at (kind_at (get_or s at 0 - 16))) (Err ActionUnknown) (λ _. subst (λ j. act_at s at j ≡ Ok (act k p q w)) (sym same) found) (λ l. absurd (omega (arith, index, (seated k).0))))) (λ l. absurd (omega (arith, h.within, h.whole)))
    where
      P : Result Act Refusal → Type 0
      P r = r ≡ Ok (act k p q w)

      later : Result Act Refusal
      later = if_lt (get_or s at 0 - 16) (length kinds) (act_at s at (kind_at (get_or s at 0 - 16))) (Err ActionUnknown)

      index : get_or s at 0 - 16 ≡ index_of k
      index = ap (λ n. n - 16) h.kind

      same : kind_at (get_or s at 0 - 16) ≡ k
      same = ap kind_at index ∙ (seated k).1

      found : act_at s at k ≡ Ok (act k p q w)
      found =
          lt_elim P (at + body_of k) (length s) (Ok (act k (get_or s (at + 1) 0) (get_or s (at + body_of k) 0) (body_of k + 1))) (Err ActionCutShort) (λ _. cc (h.first, h.last, h.whole)) (λ l. absurd (omega (arith, h.within, h.whole)))

-- ---- the record's own bytes

-- the same w bytes at the place, the same byte at each place among them
same_byte : (s t : List ℕ) (at w i : ℕ) → take w (drop at s) ≡ take w (drop at t) → i < w → get_or t (at + i) 0 ≡ get_or s (at + i) 0
same_byte s t at w i e h =
    sym (get_or-drop at t i 0) ∙ sym (get_or-take w (drop at t) i 0 h) ∙ ap (λ l. get_or l i 0) (sym e) ∙ get_or-take w (drop at s) i 0 h
    ∙ get_or-drop at s i 0

-- "bytes after it are not read": the record depends on its own bytes only
pub record_bytes_only : (s t : List ℕ) (at : ℕ) (k : Kind) (p q w : ℕ) → take w (drop at s) ≡ take w (drop at t) → read_at s at ≡ Ok (act k p q w) → read_at t at ≡ Ok (act k p q w)
record_bytes_only s t at k p q w e r =
    holds_read t at k p q w
    (record {
      within = omega (arith, h.within, h.whole, sym (length-take w (drop at s)) ∙ ap length e ∙ length-take w (drop at t), length-drop at s, length-drop at t);
      kind = rw (add-zero at) at (same_byte s t at w 0 e (omega (arith, h.whole))) ∙ h.kind;
      whole = h.whole;
      first = same_byte s t at w 1 e (omega (arith, h.whole, (body_one_or_two k).0)) ∙ h.first;
      last = same_byte s t at w (body_of k) e (omega (arith, h.whole)) ∙ h.last;
    })
  where
    h : Holds s at k p q w
    h = read_holds s at k p q w r

-- how wide a record is, and that it stands within the bytes
pub record_within : (s : List ℕ) (at : ℕ) (k : Kind) (p q w : ℕ) → read_at s at ≡ Ok (act k p q w) → (1 < w) × (w < 4) × (at + w ≤ length s)
record_within s at k p q w r =
    let h = read_holds s at k p q w r in
    (omega (arith, h.whole, (body_one_or_two k).0), omega (arith, h.whole, (body_one_or_two k).1), h.within)

-- ---- the record at a place of what is left after n bytes

lt_dropped : {A : Type 0} (s : List ℕ) (n at : ℕ) (x y : A) → if_lt at (length (drop n s)) x y ≡ if_lt (n + at) (length s) x y
lt_dropped s n at x y =
    lt_elim (λ z. z ≡ if_lt (n + at) (length s) x y) at (length (drop n s)) x y (λ h. sym (if_lt_yes (n + at) (length s) x y (omega (arith, length-drop n s))))
    (λ h. sym (if_lt_no (n + at) (length s) x y (omega (arith, length-drop n s))))

act_dropped : (s : List ℕ) (n at : ℕ) (k : Kind) → act_at (drop n s) at k ≡ act_at s (n + at) k
unfolding act_at
act_dropped s n at k =
    lt_dropped s n (at + body_of k) (Ok (act k (get_or (drop n s) (at + 1) 0) (get_or (drop n s) (at + body_of k) 0) (body_of k + 1))) (Err ActionCutShort)
    ∙ simp (get_or-drop, ← add_assoc)

pub read_dropped : (s : List ℕ) (n at : ℕ) → read_at (drop n s) at ≡ read_at s (n + at)
unfolding read_at
read_dropped s n at =
    lt_dropped s n at (if_lt (get_or (drop n s) at 0) 16 (Err ActionUnknown) (if_lt (get_or (drop n s) at 0 - 16) (length kinds) (act_at (drop n s) at (kind_at (get_or (drop n s) at 0 - 16))) (Err ActionUnknown))) (Err ActionCutShort)
    ∙ simp (get_or-drop, act_dropped)
