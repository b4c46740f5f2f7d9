-- Reading a record and writing it are each other's inverse: what a cursor reads is what `record_bytes` writes, and what is written is read.
-- Assumes nothing.
use Prim.Native.Nat.{ℕ, zero, suc, ◌+◌, ◌-◌, ◌/◌, ◌%◌, ◌<◌, ◌≤◌}
use native.Mathlib.Nat.{div-add-mod'}
use native.Mathlib.Numerals.{add-one}
use native.Mathlib.Omega.{arith}
use mathlib.Core.Path.{◌≡◌, refl, sym, ◌∙◌, ap, ap₂}
use mathlib.Core.List.{List, [], ◌∷◌}
use lib.ListN.{length, get_or, take, drop, length-take, length-drop}
use lib.Seq.{drop-cons, get_or-take, get_or-drop}
use lib.Arith.{digits_div, digits_mod}
use Rattle.laws.specs.Lists.{Bytes}
use Rattle.laws.specs.Choice.{if_b, if_lt, if_eq}
use Rattle.laws.proofs.Choice.{lt_elim, if_lt_yes, if_lt_no}
use Rattle.records.specs.declared.Record.{Record}
use Rattle.records.specs.declared.Record.TheVariants.{End, Rounds, Node, Link}
use Rattle.records.specs.declared.Cursor.{Cursor}
use Rattle.records.specs.Record.{Read}
use Rattle.records.specs.Record.{Nothing, Unknown, Short, Whole}
use Rattle.records.specs.Record.{body_length, pair_of, record_at, read_at}
use Rattle.records.specs.Plan.{two_bytes, rounds_bytes, node_bytes, link_bytes}
use Rattle.records.specs.Keeps.{record_bytes}

-- ---- what a read finds, by cases

pub read_cases :
    (s : List ℕ) (at : ℕ) (P : Read → Type 0)
    → (length s ≤ at → P Nothing)
    → (at < length s → 3 < get_or s at 0 → P Unknown)
    → (at < length s → get_or s at 0 ≤ 3 → length s < at + 1 + body_length (get_or s at 0) → P Short)
    → (get_or s at 0 ≤ 3 → at + 1 + body_length (get_or s at 0) ≤ length s → P (Whole (record_at s (get_or s at 0) (at + 1)) (record { at = at + 1 + body_length (get_or s at 0) })))
    → P (read_at s at)
unfolding read_at
read_cases s at P n u c w =
    lt_elim P at (length s) (if_lt 3 (get_or s at 0) Unknown long) Nothing
    (λ l. lt_elim P 3 (get_or s at 0) Unknown long (u l)
    (λ k. lt_elim P (length s - (at + 1)) (body_length (get_or s at 0)) Short (Whole (record_at s (get_or s at 0) (at + 1)) past) (λ h. c l k (omega arith))
    (λ h. w k (omega arith))))
    n
  where
    past : Cursor
    past = record { at = at + 1 + body_length (get_or s at 0) }

    long : Read
    long = if_lt (length s - (at + 1)) (body_length (get_or s at 0)) Short (Whole (record_at s (get_or s at 0) (at + 1)) past)

-- what stands at an offset, where it is no whole record
pub nothing_there : (s : List ℕ) (at : ℕ) → length s ≤ at → read_at s at ≡ Nothing
nothing_there s at l =
    read_cases s at (λ x. x ≡ Nothing) (λ _. refl) (λ i _. absurd (omega arith)) (λ i _ _. absurd (omega arith)) (λ _ h. absurd (omega arith))

pub no_kind_there : (s : List ℕ) (at : ℕ) → at < length s → 3 < get_or s at 0 → read_at s at ≡ Unknown
no_kind_there s at i h =
    read_cases s at (λ x. x ≡ Unknown) (λ l. absurd (omega arith)) (λ _ _. refl) (λ _ k _. absurd (omega arith)) (λ k _. absurd (omega arith))

pub cut_there : (s : List ℕ) (at : ℕ) → at < length s → get_or s at 0 ≤ 3 → length s < at + 1 + body_length (get_or s at 0) → read_at s at ≡ Short
cut_there s at i k h =
    read_cases s at (λ x. x ≡ Short) (λ l. absurd (omega arith)) (λ _ u. absurd (omega arith)) (λ _ _ _. refl) (λ _ l. absurd (omega arith))

-- ---- numbers of two bytes

pub pair_written : (v : ℕ) → pair_of (v / 256) (v % 256) ≡ v
pair_written v = div-add-mod' v 256

pub pair_read : (high low : ℕ) → low < 256 → two_bytes (pair_of high low) ≡ high ∷ low ∷ []
unfolding two_bytes
pair_read high low h = ap₂ (λ (x y : ℕ). x ∷ y ∷ []) (digits_div high h) (digits_mod high h)

-- ---- from what is read to what is written

-- the first of the bytes at i, and those at j, the next place
first_of : (s : List ℕ) (i j n : ℕ) → i < length s → i + 1 ≡ j → take (suc n) (drop i s) ≡ get_or s i 0 ∷ take n (drop j s)
first_of s i j n h e =
    ap (take (suc n)) (drop-cons s i 0 h) ∙ ap (λ k. get_or s i 0 ∷ take n (drop k s)) (sym (add-one i) ∙ e)

pub read_is_written :
    (s : List ℕ) → Bytes s → (at k : ℕ) → get_or s at 0 ≡ k → k ≤ 3 → at + 1 + body_length k ≤ length s
    → take (1 + body_length k) (drop at s) ≡ record_bytes (record_at s k (at + 1))
unfolding body_length record_at if_eq if_b rounds_bytes node_bytes link_bytes
read_is_written s small at zero e l h = first_of s at (at + 1) 0 (omega arith) refl ∙ ap (λ k. k ∷ []) e
read_is_written s small at (suc zero) e l h =
    let b = at + 1 in
    first_of s at b 2 (omega arith) refl
    ∙ ap₂ (λ (k : ℕ) (xs : List ℕ). k ∷ xs) e
    (first_of s b (b + 1) 1 (omega arith) refl
    ∙ ap (λ xs. get_or s b 0 ∷ xs) (first_of s (b + 1) (b + 2) 0 (omega arith) (omega arith))
    ∙ sym (pair_read (get_or s b 0) (get_or s (b + 1) 0) (small (b + 1))))
read_is_written s small at (suc (suc zero)) e l h =
    let b = at + 1 in
    first_of s at b 4 (omega arith) refl
    ∙ ap₂ (λ (k : ℕ) (xs : List ℕ). k ∷ xs) e
    (first_of s b (b + 1) 3 (omega arith) refl
    ∙ ap (λ xs. get_or s b 0 ∷ xs)
    (first_of s (b + 1) (b + 2) 2 (omega arith) (omega arith)
    ∙ ap (λ xs. get_or s (b + 1) 0 ∷ xs)
    (first_of s (b + 2) (b + 3) 1 (omega arith) (omega arith)
    ∙ ap (λ xs. get_or s (b + 2) 0 ∷ xs) (first_of s (b + 3) (b + 4) 0 (omega arith) (omega arith))
    ∙ sym (pair_read (get_or s (b + 2) 0) (get_or s (b + 3) 0) (small (b + 3))))))
read_is_written s small at (suc (suc (suc zero))) e l h =
    let b = at + 1 in
    first_of s at b 3 (omega arith) refl
    ∙ ap₂ (λ (k : ℕ) (xs : List ℕ). k ∷ xs) e
    (first_of s b (b + 1) 2 (omega arith) refl
    ∙ ap (λ xs. get_or s b 0 ∷ xs)
    (first_of s (b + 1) (b + 2) 1 (omega arith) (omega arith)
    ∙ ap (λ xs. get_or s (b + 1) 0 ∷ xs) (first_of s (b + 2) (b + 3) 0 (omega arith) (omega arith))))
read_is_written s small at (suc (suc (suc (suc k)))) e l h = absurd (omega arith)

-- ---- from what is written to what is read

abbrev cursor_at : ℕ → Cursor
cursor_at n = record { at = n }

module _ (s : List ℕ) (at : ℕ) (bs : List ℕ) (e : take (length bs) (drop at s) ≡ bs) where
  pub held_within : 0 < length bs → at + length bs ≤ length s
  held_within h = omega (arith, length-take (length bs) (drop at s), length-drop at s, ap length e)

  -- byte j of the record stands at place i of the whole
  pub held_at : (j i : ℕ) → i ≡ at + j → j < length bs → get_or s i 0 ≡ get_or bs j 0
  held_at j i q h =
      ap (λ k. get_or s k 0) q
      ∙ sym (get_or-drop at s j 0)
      ∙ sym (get_or-take (length bs) (drop at s) j 0 h)
      ∙ ap (λ l. get_or l j 0) e

pub whole_at : (s : List ℕ) (at k : ℕ) → get_or s at 0 ≡ k → k ≤ 3 → at + 1 + body_length k ≤ length s → read_at s at ≡ Whole (record_at s k (at + 1)) (cursor_at (at + 1 + body_length k))
unfolding read_at
whole_at s at k e l h =
    rw e (if_lt_yes at (length s) _ _ (omega arith) ∙ if_lt_no 3 k _ _ l ∙ if_lt_no (length s - (at + 1)) (body_length k) _ _ (omega arith))

pub written_is_read : (s : List ℕ) (at : ℕ) (r : Record) → take (length (record_bytes r)) (drop at s) ≡ record_bytes r → read_at s at ≡ Whole r (cursor_at (at + length (record_bytes r)))
unfolding body_length record_at if_eq if_b rounds_bytes node_bytes link_bytes two_bytes
written_is_read s at End e =
    let inside = held_within s at (0 ∷ []) e (omega arith) in
    let byte = held_at s at (0 ∷ []) e in
    whole_at s at 0 (byte 0 at (omega arith) (omega arith)) (omega arith) (omega arith)
    ∙ ap (λ n. Whole End (cursor_at n)) (omega arith)
written_is_read s at (Rounds v) e =
    let inside = held_within s at (record_bytes (Rounds v)) e (omega arith) in
    let byte = held_at s at (record_bytes (Rounds v)) e in
    let b = at + 1 in
    whole_at s at 1 (byte 0 at (omega arith) (omega arith)) (omega arith) (omega arith)
    ∙ ap₂ (λ x n. Whole (Rounds x) (cursor_at n))
    (ap₂ pair_of (byte 1 b refl (omega arith)) (byte 2 (b + 1) (omega arith) (omega arith)) ∙ pair_written v)
    (omega arith)
written_is_read s at (Node number parent start) e =
    let inside = held_within s at (record_bytes (Node number parent start)) e (omega arith) in
    let byte = held_at s at (record_bytes (Node number parent start)) e in
    let b = at + 1 in
    let value = ap₂ pair_of (byte 3 (b + 2) (omega arith) (omega arith)) (byte 4 (b + 3) (omega arith) (omega arith)) ∙ pair_written start in
    whole_at s at 2 (byte 0 at (omega arith) (omega arith)) (omega arith) (omega arith)
    ∙ ap₂ (λ x n. Whole x (cursor_at n)) (cong_node (byte 1 b refl (omega arith)) (byte 2 (b + 1) (omega arith) (omega arith)) value) (omega arith)
  where
    cong_node : {i j k x y z : ℕ} → i ≡ x → j ≡ y → k ≡ z → Node i j k ≡ Node x y z
    cong_node p q r = cc
written_is_read s at (Link a b flag) e =
    let inside = held_within s at (record_bytes (Link a b flag)) e (omega arith) in
    let byte = held_at s at (record_bytes (Link a b flag)) e in
    let i = at + 1 in
    whole_at s at 3 (byte 0 at (omega arith) (omega arith)) (omega arith) (omega arith)
    ∙ ap₂ (λ x n. Whole x (cursor_at n)) (cong_link (byte 1 i refl (omega arith)) (byte 2 (i + 1) (omega arith) (omega arith)) (byte 3 (i + 2) (omega arith) (omega arith))) (omega arith)
  where
    cong_link : {i j k x y z : ℕ} → i ≡ x → j ≡ y → k ≡ z → Link i j k ≡ Link x y z
    cong_link p q r = cc
