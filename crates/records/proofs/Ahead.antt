-- What a cursor reads in the bytes ahead of it, those from its offset on: none, a byte of kind and a whole body, a body cut short, or no kind.
-- Assumes nothing.
use Prim.Native.Nat.{ℕ, ◌+◌, ◌-◌, ◌<◌, ◌≤◌, min}
use native.Mathlib.Omega.{arith}
use mathlib.Core.Path.{◌≡◌, refl, sym, ◌∙◌, ap, ap₂}
use mathlib.Core.List.{List, [], ◌∷◌}
use lib.ListN.{length, get_or, take, drop, length-take, length-drop}
use lib.Seq.{get_or-take, get_or-drop}
use Rattle.std.specs.Prelude.{Ok, Err}
use Rattle.std.specs.Int.{w16, from_be_bytes}
use Rattle.laws.specs.Choice.{if_b, if_eq}
use Rattle.answers.specs.declared.Refusal.TheVariants.{KindUnknown, CutShort, OutOfOrder}
use Rattle.records.specs.declared.Record.{Record}
use Rattle.records.specs.declared.Record.TheVariants.{End, Rounds, Node, Link}
use Rattle.records.specs.Record.{Whole, body_length, pair_of, record_at, read_at, found_at}
use Rattle.records.proofs.Codec.{nothing_there, no_kind_there, cut_there, whole_at}

-- the bytes from i on, and those behind the first of them, as slices have them
abbrev pub ahead_of : List ℕ → ℕ → List ℕ
ahead_of s i = take (length s - i) (drop i s)

abbrev pub behind : List ℕ → List ℕ
behind xs = take (length xs - 1) (drop 1 xs)

ahead_length : (s : List ℕ) (i : ℕ) → length (ahead_of s i) ≡ length s - i
ahead_length s i = omega (arith, length-take (length s - i) (drop i s), length-drop i s)

behind_length : (xs : List ℕ) → length (behind xs) ≡ length xs - 1
behind_length xs = omega (arith, length-take (length xs - 1) (drop 1 xs), length-drop 1 xs)

pair_joined : (high low : ℕ) → from_be_bytes w16 (high ∷ low ∷ []) ≡ pair_of high low
pair_joined high low = omega arith

module _ (s : List ℕ) (at i : ℕ) (e : i ≡ min at (length s)) where
  pub none_ahead : length (ahead_of s i) < 1 → Err (record { refusal = OutOfOrder; place = length s }) ≡ found_at s at (read_at s at)
  none_ahead h = ap (found_at s at) (sym (nothing_there s at (omega (arith, ahead_length s i))))

  -- a byte of kind, and what is behind it
  module _ (h : 1 ≤ length (ahead_of s i)) where
    offset : i ≡ at
    offset = omega (arith, ahead_length s i)

    kind : get_or (ahead_of s i) 0 0 ≡ get_or s at 0
    kind =
        let p : i + 0 ≡ at = omega (arith, offset) in
        get_or-take (length s - i) (drop i s) 0 0 (omega (arith, ahead_length s i)) ∙ get_or-drop i s 0 0 ∙ ap (λ n. get_or s n 0) p

    byte : (j k : ℕ) → j < length (behind (ahead_of s i)) → at + 1 + j ≡ k → get_or (behind (ahead_of s i)) j 0 ≡ get_or s k 0
    byte j k l q =
        let p : i + (1 + j) ≡ k = omega (arith, offset) in
        get_or-take (length (ahead_of s i) - 1) (drop 1 (ahead_of s i)) j 0 (omega (arith, behind_length (ahead_of s i)))
        ∙ get_or-drop 1 (ahead_of s i) j 0
        ∙ get_or-take (length s - i) (drop i s) (1 + j) 0 (omega (arith, ahead_length s i, behind_length (ahead_of s i)))
        ∙ get_or-drop i s (1 + j) 0
        ∙ ap (λ n. get_or s n 0) p

    pub unknown_ahead : 3 < get_or (ahead_of s i) 0 0 → Err (record { refusal = KindUnknown; place = at }) ≡ found_at s at (read_at s at)
    unknown_ahead k = ap (found_at s at) (sym (no_kind_there s at (omega (arith, ahead_length s i)) (omega (arith, kind))))

    pub short_ahead : get_or (ahead_of s i) 0 0 ≤ 3 → (n : ℕ) → body_length (get_or (ahead_of s i) 0 0) ≡ n → length (behind (ahead_of s i)) < n → Err (record { refusal = CutShort; place = at }) ≡ found_at s at (read_at s at)
    short_ahead k n b l =
        ap (found_at s at)
        (sym (cut_there s at (omega (arith, ahead_length s i)) (omega (arith, kind)) (omega (arith, offset, ap body_length kind, ahead_length s i, behind_length (ahead_of s i)))))

    -- a whole record of kind k
    there : (k : ℕ) → k ≤ 3 → get_or (ahead_of s i) 0 0 ≡ k → body_length k ≤ length (behind (ahead_of s i)) → (r : Record) → r ≡ record_at s k (at + 1) → (n : ℕ) → n ≡ 1 + body_length k → Ok (r, record { at = at + n }) ≡ found_at s at (read_at s at)
    there k l q b r p n m =
        let z : at + n ≡ at + 1 + body_length k = omega arith in
        ap₂ (λ x y. found_at s at (Whole x (record { at = y }))) p z
        ∙ ap (found_at s at) (sym (whole_at s at k (sym kind ∙ q) l (omega (arith, ahead_length s i, behind_length (ahead_of s i), offset))))

    pub end_ahead : get_or (ahead_of s i) 0 0 ≡ 0 → Ok (End, record { at = at + 1 }) ≡ found_at s at (read_at s at)
    unfolding body_length record_at if_eq if_b
    end_ahead q = there 0 (omega arith) q (omega arith) End refl 1 refl

    pub rounds_ahead : get_or (ahead_of s i) 0 0 ≡ 1 → 2 ≤ length (behind (ahead_of s i)) → (v : ℕ) → v ≡ from_be_bytes w16 (get_or (behind (ahead_of s i)) 0 0 ∷ get_or (behind (ahead_of s i)) 1 0 ∷ []) → Ok (Rounds v, record { at = at + 3 }) ≡ found_at s at (read_at s at)
    unfolding body_length record_at if_eq if_b
    rounds_ahead q l v p =
        let value = p ∙ pair_joined _ _ ∙ ap₂ pair_of (byte 0 (at + 1) (omega arith) (omega arith)) (byte 1 (at + 1 + 1) (omega arith) refl) in
        there 1 (omega arith) q l (Rounds v) (ap Rounds value) 3 refl

    pub node_ahead : get_or (ahead_of s i) 0 0 ≡ 2 → 4 ≤ length (behind (ahead_of s i)) → (v : ℕ) → v ≡ from_be_bytes w16 (get_or (behind (ahead_of s i)) 2 0 ∷ get_or (behind (ahead_of s i)) 3 0 ∷ []) → Ok (Node (get_or (behind (ahead_of s i)) 0 0) (get_or (behind (ahead_of s i)) 1 0) v, record { at = at + 5 }) ≡ found_at s at (read_at s at)
    unfolding body_length record_at if_eq if_b
    node_ahead q l v p =
        let number = byte 0 (at + 1) (omega arith) (omega arith) in
        let parent = byte 1 (at + 1 + 1) (omega arith) refl in
        let start = p ∙ pair_joined _ _ ∙ ap₂ pair_of (byte 2 (at + 1 + 2) (omega arith) refl) (byte 3 (at + 1 + 3) (omega arith) refl) in
        there 2 (omega arith) q l (Node (get_or (behind (ahead_of s i)) 0 0) (get_or (behind (ahead_of s i)) 1 0) v) (rw (number, parent, start)) 5 refl

    pub link_ahead : get_or (ahead_of s i) 0 0 ≡ 3 → 3 ≤ length (behind (ahead_of s i)) → Ok (Link (get_or (behind (ahead_of s i)) 0 0) (get_or (behind (ahead_of s i)) 1 0) (get_or (behind (ahead_of s i)) 2 0), record { at = at + 4 }) ≡ found_at s at (read_at s at)
    unfolding body_length record_at if_eq if_b
    link_ahead q l =
        let a = byte 0 (at + 1) (omega arith) (omega arith) in
        let b = byte 1 (at + 1 + 1) (omega arith) refl in
        let flag = byte 2 (at + 1 + 2) (omega arith) refl in
        there 3 (omega arith) q l (Link (get_or (behind (ahead_of s i)) 0 0) (get_or (behind (ahead_of s i)) 1 0) (get_or (behind (ahead_of s i)) 2 0)) (rw (a, b, flag)) 4 refl
