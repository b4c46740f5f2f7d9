-- Why the reading loop is right: as long as turns are left for the bytes from the offset on, what `lists_from` gives there is the answer to the
-- whole. Each read either ends the loop with that answer, or leaves one turn less and a later offset.
-- Assumes nothing.
use Prim.Native.Nat.{ℕ, zero, suc, pred, ◌+◌, ◌<◌, ◌≤◌}
use native.Mathlib.Omega.{arith}
use mathlib.Core.Path.{◌≡◌, refl, sym, ◌∙◌, ap, ap₂, subst}
use mathlib.Core.Bool.{true, false}
use mathlib.Core.List.{List}
use lib.ListN.{length, get_or}
use Rattle.std.specs.Prelude.{Result, Ok, Err, ⊤}
use Rattle.laws.proofs.Choice.{if_eq_yes, if_eq_no, if_b_yes, if_b_no}
use Rattle.network.specs.declared.Network.{Network}
use Rattle.records.specs.declared.Record.{Record}
use Rattle.records.specs.declared.Record.TheVariants.{End, Rounds, Node, Link}
use Rattle.answers.specs.declared.Refusal.{Refusal}
use Rattle.answers.specs.declared.Refusal.TheVariants.{KindUnknown, CutShort, OutOfOrder}
use Rattle.answers.specs.declared.Refused.{Refused}
use Rattle.answers.specs.Numbers.{number_of}
use Rattle.answers.proofs.Named.{answer_of-injective}
use Rattle.records.specs.declared.Cursor.{Cursor}
use Rattle.records.specs.Numbers.{accepted, kind_unknown, cut_short, out_of_order}
use Rattle.records.specs.Planned.{planned_of}
use Rattle.records.specs.Record.{Read, Nothing, Unknown, Short, Whole, body_length, read_at, found_at}
use Rattle.records.specs.Rules.{rule_of}
use Rattle.network.specs.Zeros.{zero_network}
use Rattle.records.specs.Reader.{node_added, link_added, rounds_added, HasRoom, add_of, closes_of, refused_with, accepted_with, turn, lists_from, lists_of}
use Rattle.records.proofs.Codec.{read_cases}

-- what holds between two records: the offset and the network so far
pub record Reading (s : List ℕ) (at : ℕ) (net : Network) : Type 0 where
  pub turns : ℕ
  -- the offset is within the bytes, or just past them
  pub within : at ≤ length s
  -- more turns are left than bytes
  pub enough : length s < turns + at
  -- what is read from here on is the answer to the whole
  pub same : lists_from turns s at net ≡ lists_of s
  -- the last link can be looked up
  pub few_links : net.links ≤ 128

pub starts : (s : List ℕ) → Reading s 0 zero_network
unfolding lists_of zero_network
starts s = record { turns = suc (length s); within = omega arith; enough = omega arith; same = refl; few_links = omega arith }

-- ---- one read

-- a whole record ends after it begins, and within the bytes
pub whole_ends : (s : List ℕ) (at : ℕ) (r : Record) (next : Cursor) → read_at s at ≡ Whole r next → (at < next.at) × (next.at ≤ length s)
whole_ends s at r next e =
    read_cases s at (λ x. x ≡ Whole r next → (at < next.at) × (next.at ≤ length s)) (λ _ q. other (cc)) (λ _ _ q. other (cc)) (λ _ _ _ q. other (cc))
    (λ _ h q. let p : past ≡ next = cc in subst (λ n. (at < n.at) × (n.at ≤ length s)) p (omega arith))
    e
  where
    past : Cursor
    past = record { at = at + 1 + body_length (get_or s at 0) }

    other : ◌≡◌ {A = ℕ} 0 1 → (at < next.at) × (next.at ≤ length s)
    other z = absurd (omega arith)

-- the answer to the whole is what the read at the offset comes to
pub one_turn : {s : List ℕ} {at : ℕ} {net : Network} (x : Read) (R : Reading s at net) → read_at s at ≡ x → turn s at net (lists_from (pred R.turns) s) x ≡ lists_of s
unfolding lists_from
one_turn {s} {at} {net} x R e = go R.turns R.enough R.same
  where
    go : (t : ℕ) → length s < t + at → lists_from t s at net ≡ lists_of s → turn s at net (lists_from (pred t) s) x ≡ lists_of s
    go zero l q = absurd (omega (arith, R.within))
    go (suc t) l q = ap (turn s at net (lists_from t s)) (sym e) ∙ q

-- one link more is at most the last that there is room for
still_few : (net : Network) (r : Record) → net.links ≤ 128 → HasRoom net r → (add_of net r).links ≤ 128
unfolding rounds_added node_added link_added
still_few net End l h = l
still_few net (Rounds v) l h = l
still_few net (Node number parent start) l h = l
still_few net (Link a b flag) l h = omega arith

-- ---- what a cursor answers

-- a whole record, from the cursor's answer
pub whole_found : (s : List ℕ) (at : ℕ) (r : Record) (next : Cursor) → found_at s at (read_at s at) ≡ Ok (r, next) → read_at s at ≡ Whole r next
whole_found s at r next = go (read_at s at)
  where
    go : (x : Read) → found_at s at x ≡ Ok (r, next) → x ≡ Whole r next
    go Nothing e = cc
    go Unknown e = cc
    go Short e = cc
    go (Whole r' next') e =
        let p : ◌≡◌ {A = Record × Cursor} (r', next') (r, next) = cc in
        ap₂ Whole (ap (λ x. x.0) p) (ap (λ x. x.1) p)

-- no number of a refusal is 0
pub refusal_is_no_0 : (e : Refusal) → number_of e ≡ accepted → ⊥
refusal_is_no_0 e q =
    let z : ◌≡◌ {A = Result ⊤ Refusal} (Err e) (Ok tt) = answer_of-injective (Err e) (Ok tt) q in
    cc

-- ---- the ways out of the loop

module _ {s : List ℕ} {at : ℕ} {net : Network} (R : Reading s at net) where
  pub at_the_end : read_at s at ≡ Nothing → refused_with out_of_order (length s) ≡ lists_of s
  unfolding turn
  at_the_end e = one_turn Nothing R e

  pub at_no_kind : read_at s at ≡ Unknown → refused_with kind_unknown at ≡ lists_of s
  unfolding turn
  at_no_kind e = one_turn Unknown R e

  pub at_cut_body : read_at s at ≡ Short → refused_with cut_short at ≡ lists_of s
  unfolding turn
  at_cut_body e = one_turn Short R e

  pub at_refused : (e : Refused) → found_at s at (read_at s at) ≡ Err e → planned_of (Err e) ≡ lists_of s
  at_refused e = go (read_at s at) refl
    where
      go : (x : Read) → read_at s at ≡ x → found_at s at x ≡ Err e → planned_of (Err e) ≡ lists_of s
      go Nothing q p =
          let f : e ≡ record { refusal = OutOfOrder; place = length s } = cc in
          ap (λ y. planned_of (Err y)) f ∙ at_the_end q
      go Unknown q p =
          let f : e ≡ record { refusal = KindUnknown; place = at } = cc in
          ap (λ y. planned_of (Err y)) f ∙ at_no_kind q
      go Short q p =
          let f : e ≡ record { refusal = CutShort; place = at } = cc in
          ap (λ y. planned_of (Err y)) f ∙ at_cut_body q
      go (Whole r next) q p = cc

  module _ {r : Record} {next : Cursor} (e : read_at s at ≡ Whole r next) where
    pub at_fault : (rule_of net r ≡ accepted → ⊥) → refused_with (rule_of net r) at ≡ lists_of s
    unfolding turn
    at_fault d = sym (if_eq_no (rule_of net r) accepted _ _ d) ∙ one_turn (Whole r next) R e

    pub at_kind_0 : rule_of net r ≡ accepted → closes_of r ≡ true → accepted_with next.at net ≡ lists_of s
    unfolding turn
    at_kind_0 k c =
        sym (if_eq_yes (rule_of net r) accepted _ _ k ∙ if_b_yes (closes_of r) _ _ c) ∙ one_turn (Whole r next) R e

    -- one record more in the lists, and the next offset
    pub goes_on : rule_of net r ≡ accepted → closes_of r ≡ false → HasRoom net r → Reading s next.at (add_of net r)
    unfolding turn
    goes_on k c h =
        record {
          turns = pred R.turns;
          within = (whole_ends s at r next e).1;
          enough = omega (arith, whole_ends s at r next e, R.enough);
          same = sym (if_eq_yes (rule_of net r) accepted _ _ k ∙ if_b_no (closes_of r) _ _ c) ∙ one_turn (Whole r next) R e;
          few_links = still_few net r R.few_links h;
        }
