-- What the bytes hold at a place: a byte that is no kind's number, a record cut short, or the record of one action. The reader finds which.
-- Assumes nothing.
use Prim.Native.Nat.{ℕ, ◌+◌, ◌-◌, ◌<◌, ◌≤◌}
use native.Mathlib.Omega.{arith}
use native.Mathlib.Decide.{dec_lt}
use mathlib.Core.Path.{◌≡◌, refl, sym, ◌∙◌, ap, subst}
use mathlib.Core.Bool.{Bool, true, false, true≢false}
use mathlib.Core.List.{List}
use lib.ListN.{length, get_or}
use Rattle.std.specs.Prelude.{Result, Ok, Err}
use Rattle.std.specs.Result.{result_unwrap_or}
use Rattle.answers.specs.declared.Refusal.{Refusal}
use Rattle.answers.specs.declared.Refusal.TheVariants.{ActionUnknown, ActionCutShort}
use Rattle.laws.specs.Choice.{if_b, if_lt}
use Rattle.laws.proofs.Choice.{if_lt_yes, if_lt_no}
use Rattle.actions.specs.declared.Kind.{Kind}
use Rattle.actions.specs.declared.Place.{Place}
use Rattle.actions.specs.declared.Act.{Act as Held}
use Rattle.actions.specs.Kinds.{number_of, kinds, index_of, kind_at}
use Rattle.actions.specs.Table.{place_of}
use Rattle.actions.specs.Records.{names_of, act, act_at, read_at, Holds}
use Rattle.actions.specs.Records.{body_of as length_of}
use Rattle.actions.proofs.Numbers.{seated, number_from_16, number_at}
use Rattle.actions.proofs.Records.{read_holds, holds_read}
use Rattle.actions.proofs.Cells.{same_index}
use Rattle.automaton.specs.Actions.{Act, body_of}
use Rattle.guarantees.specs.Kinds.{kind_of}
use Rattle.guarantees.specs.Reading.{names_link}
use Rattle.guarantees.specs.Records.{Names, UnknownAt, CutAt, no_byte, too_few}
use Rattle.guarantees.proofs.Tables.{action_of, place_as, named, row_of}
use Rattle.guarantees.proofs.Bytes.{kind_byte_lem, byte_of, record_length, length_of_kind, names_holds, holds_names}

-- a body that names no link has one byte
one_byte : (k : Kind) → names_link (place_as (place_of k)) ≡ false → length_of k ≡ 1
unfolding length_of names_of names_link place_as
one_byte k = by (place_of k)
  where
    by : (w : Place) → names_link (place_as w) ≡ false → names_of w ≡ 1
    by Place.Node e = refl
    by Place.Link e = absurd (true≢false e)
    by Place.PreferredLink e = absurd (true≢false e)
    by Place.Child e = refl
    by Place.Root e = refl

module _ (bytes : List ℕ) (at : ℕ) where
  pub data Found : Type 0 where
    unknown : UnknownAt bytes at → read_at bytes at ≡ Err ActionUnknown → Found
    cut : CutAt bytes at → read_at bytes at ≡ Err ActionCutShort → Found
    action : (a : Act) (width : ℕ) → Names bytes at a width → read_at bytes at ≡ Ok (act (kind_of a) (body_of a).p (body_of a).q width) → Found

  -- a record that is read is an action's: where it has one number, its first byte is its last
  from_record : (k : Kind) (p q width : ℕ) → read_at bytes at ≡ Ok (act k p q width) → Found
  unfolding if_b
  from_record k p q width e =
      action (action_of k p q) width
      (holds_names bytes at (action_of k p q) width (subst (λ (z : Kind × ℕ × ℕ). Holds bytes at z.0 z.1 z.2 width) (λ i. (kind i, first i, last i)) held))
      (e ∙ (λ i. Ok (act (kind i) (first i) (last i) width)))
    where
      held : Holds bytes at k p q width
      held = read_holds bytes at k p q width e

      kind : k ≡ kind_of (action_of k p q)
      kind = sym (named k p q).kind

      first : p ≡ (body_of (action_of k p q)).p
      first = sym (ap (λ b. b.p) (named k p q).body)

      number : (t : Bool) → names_link (place_as (place_of k)) ≡ t → q ≡ if_b t q p
      number true _ = refl
      number false t = sym held.last ∙ ap (λ n. get_or bytes (at + n) 0) (one_byte k t) ∙ held.first

      last : q ≡ (body_of (action_of k p q)).q
      last = number (names_link (place_as (place_of k))) refl ∙ sym (ap (λ b. b.q) (named k p q).body)

  -- ---- which it is

  b : ℕ
  b = get_or bytes at 0

  -- the byte is the number of a kind
  of_kind : (k : Kind) → b ≡ number_of k → act_at bytes at k ≡ read_at bytes at → Found
  unfolding act_at b
  of_kind k e is = by (dec_lt (at + length_of k) (length bytes))
    where
      by : Dec (at + length_of k < length bytes) → Found
      by (yes h) =
          from_record k (get_or bytes (at + 1) 0) (get_or bytes (at + length_of k) 0) (length_of k + 1) (sym is ∙ if_lt_yes (at + length_of k) (length bytes) _ (Err ActionCutShort) h)
      by (no h) = cut (too_few (action_of k 0 0) (e ∙ sym (byte_of k 0 0)) (omega (arith, length_of_kind k 0 0))) (sym is ∙ if_lt_no (at + length_of k) (length bytes) _ (Err ActionCutShort) (omega arith))

  pub found : Found
  unfolding read_at index_of b
  found = by (dec_lt at (length bytes))
    where
      tested : Result Held Refusal
      tested = if_lt (b - 16) (length kinds) (act_at bytes at (kind_at (b - 16))) (Err ActionUnknown)

      later : Result Held Refusal
      later = if_lt b 16 (Err ActionUnknown) tested

      high : at < length bytes → 16 ≤ b → Dec (b - 16 < length kinds) → Found
      high h g (yes l) =
          of_kind (kind_at (b - 16)) (omega (arith, number_at (b - 16) l))
          (sym (if_lt_yes at (length bytes) later (Err ActionCutShort) h ∙ if_lt_no b 16 (Err ActionUnknown) tested g ∙ if_lt_yes (b - 16) (length kinds) _ (Err ActionUnknown) l))
      high h g (no l) =
          unknown (record { within = h; no_kind = λ a e. omega (arith, (seated (kind_of a)).0, e, kind_byte_lem a) })
          (if_lt_yes at (length bytes) later (Err ActionCutShort) h ∙ if_lt_no b 16 (Err ActionUnknown) tested g ∙ if_lt_no (b - 16) (length kinds) _ (Err ActionUnknown) (omega arith))

      in_bytes : at < length bytes → Dec (b < 16) → Found
      in_bytes h (yes l) =
          unknown (record { within = h; no_kind = λ a e. omega (arith, number_from_16 (kind_of a), e, kind_byte_lem a) })
          (if_lt_yes at (length bytes) later (Err ActionCutShort) h ∙ if_lt_yes b 16 (Err ActionUnknown) tested l)
      in_bytes h (no l) = high h (omega arith) (dec_lt (b - 16) (length kinds))

      by : Dec (at < length bytes) → Found
      by (yes h) = in_bytes h (dec_lt b 16)
      by (no h) = cut (no_byte (omega arith)) (if_lt_no at (length bytes) later (Err ActionCutShort) (omega arith))

  -- ---- it is only one of them

  same_number : (j k : Kind) → number_of j ≡ number_of k → j ≡ k
  unfolding index_of
  same_number j k e = same_index j k (ap (λ n. n - 16) e)

  pub unknown_read : UnknownAt bytes at → read_at bytes at ≡ Err ActionUnknown
  unknown_read u = by found
    where
      by : Found → read_at bytes at ≡ Err ActionUnknown
      by (unknown _ e) = e
      by (cut (no_byte h) _) = absurd (omega (arith, u.within))
      by (cut (too_few k e _) _) = absurd (u.no_kind k e)
      by (action a width h _) = absurd (u.no_kind a ((names_holds bytes at a width h).kind ∙ sym (kind_byte_lem a)))

  pub cut_read : CutAt bytes at → read_at bytes at ≡ Err ActionCutShort
  unfolding read_at
  cut_read (no_byte h) = if_lt_no at (length bytes) _ (Err ActionCutShort) h
  cut_read (too_few k e f) = by found
    where
      by : Found → read_at bytes at ≡ Err ActionCutShort
      by (unknown u _) = absurd (u.no_kind k e)
      by (cut _ r) = r
      by (action a width h _) =
          let held = names_holds bytes at a width h in
          let same : kind_of a ≡ kind_of k = same_number (kind_of a) (kind_of k) (sym held.kind ∙ e ∙ kind_byte_lem k) in
          absurd (omega (arith, held.within, held.whole, ap length_of same, record_length k))

  pub names_read : (a : Act) (width : ℕ) → Names bytes at a width → read_at bytes at ≡ Ok (act (kind_of a) (body_of a).p (body_of a).q width)
  names_read a width h = holds_read bytes at (kind_of a) (body_of a).p (body_of a).q width (names_holds bytes at a width h)

  pub names_once : (a b : Act) (w u : ℕ) → Names bytes at a w → Names bytes at b u → (a ≡ b) × (w ≡ u)
  names_once a b w u h g =
      let one : ◌≡◌ {A = Result Held Refusal} (Ok (act (kind_of a) (body_of a).p (body_of a).q w)) (Ok (act (kind_of b) (body_of b).p (body_of b).q u)) = sym (names_read a w h) ∙ names_read b u g in
      let same : act (kind_of a) (body_of a).p (body_of a).q w ≡ act (kind_of b) (body_of b).p (body_of b).q u = ap (λ r. result_unwrap_or r (act (kind_of a) 0 0 0)) one in
      let kind : kind_of a ≡ kind_of b = ap (λ x. x.kind) same in
      let first : (body_of a).p ≡ (body_of b).p = ap (λ x. x.p) same in
      let last : (body_of a).q ≡ (body_of b).q = ap (λ x. x.q) same in
      (sym (row_of a).rebuilt ∙ (λ i. action_of (kind i) (first i) (last i)) ∙ (row_of b).rebuilt, ap (λ x. x.width) same)
