-- From the answer to what the bytes hold. Between two records `Sofar` is known: which records stand before the offset, that each kept the rules
-- after those before it, and that the reader has come this far with their network. Each turn ends with an outcome, or leads to the next.
-- Assumes nothing.
use Prim.Native.Nat.{ℕ, zero, suc, ◌+◌, ◌<◌, ◌≤◌}
use native.Mathlib.Omega.{arith}
use mathlib.Core.Path.{◌≡◌, refl, sym, ◌∙◌, ap, subst}
use mathlib.Core.Bool.{Bool, true, false}
use mathlib.Core.List.{List, [], ◌∷◌, ◌++◌}
use lib.ListN.{length, get_or, take, drop, length-take, length-drop}
use lib.Seq.{take-add}
use lib.Arith.{digits_lt}
use Rattle.laws.specs.Lists.{Bytes}
use Rattle.laws.proofs.Choice.{eq_elim, true_not_false}
use Rattle.network.specs.declared.Network.{Network}
use Rattle.records.specs.declared.Record.{Record}
use Rattle.records.specs.declared.Record.TheVariants.{End, Rounds, Node, Link}
use Rattle.records.specs.Record.{Whole}
use Rattle.records.specs.Numbers.{accepted, kind_unknown, cut_short, out_of_order}
use Rattle.records.specs.Record.{body_length, record_at, read_at}
use Rattle.records.specs.Rules.{rule_of}
use Rattle.records.specs.Reader.{HasRoom, closes_of, refused_with, accepted_with, lists_of}
use Rattle.records.specs.Plan.{Plan, network_of, Keeps1to5}
use Rattle.records.specs.Keeps.{record_bytes, no_plan, Keeps, BreaksFirst, EachKeeps, with_all, records_bytes, BreaksAt, bytes_end, unknown, short, whole, Accepted1to5, Refused1to5}
use Rattle.records.proofs.Begun.{Begun, Small, nothing_read, one_more_read, ended_keeps, plan_written, with_one_more, bytes_one_more, each_one_more}
use Rattle.records.proofs.Codec.{read_cases, read_is_written}
use Rattle.records.proofs.Keeping.{rule_cases, kept_gives_0, broken_is_no_0}
use Rattle.records.proofs.Networks.{network_of_none, network_with}
use Rattle.records.proofs.Rules.{kept_has_room}
use Rattle.records.proofs.Turns.{Reading, starts, at_the_end, at_no_kind, at_cut_body, at_fault, at_kind_0, goes_on}

-- the records read so far, up to an offset
record Sofar (s : List ℕ) (at : ℕ) : Type 0 where
  before : List Record
  keep : EachKeeps no_plan before
  bytes : take at s ≡ records_bytes before
  begun : Begun (with_all no_plan before) before
  reading : Reading s at (network_of (with_all no_plan before))

nothing_yet : (s : List ℕ) → Sofar s 0
unfolding EachKeeps with_all records_bytes
nothing_yet s =
    record {
      before = [];
      keep = tt;
      bytes = refl;
      begun = nothing_read;
      reading = subst (Reading s 0) (sym network_of_none) (starts s);
    }

-- a record of bytes has byte-sized numbers
small_read : (s : List ℕ) → Bytes s → (k b : ℕ) → Small (record_at s k b)
unfolding record_at
small_read s small k b =
    eq_elim Small k 0 End _ (λ _. tt)
    (λ _. eq_elim Small k 1 (Rounds _) _ (λ _. tt)
    (λ _. eq_elim Small k 2 (Node _ _ _) (Link _ _ _) (λ _. (small (b + 1), digits_lt (small (b + 2)) (small (b + 3)))) (λ _. tt)))

-- one whole record at an offset, as its bytes
module _ (s : List ℕ) (small : Bytes s) (at : ℕ) (known : get_or s at 0 ≤ 3) (inside : at + 1 + body_length (get_or s at 0) ≤ length s) where
  found : Record
  found = record_at s (get_or s at 0) (at + 1)

  found_bytes : take (1 + body_length (get_or s at 0)) (drop at s) ≡ record_bytes found
  unfolding found
  found_bytes = read_is_written s small at (get_or s at 0) refl known inside

  found_length : length (record_bytes found) ≡ 1 + body_length (get_or s at 0)
  found_length =
      omega (arith, ap length found_bytes, length-take (1 + body_length (get_or s at 0)) (drop at s), length-drop at s)

  found_stands : take (length (record_bytes found)) (drop at s) ≡ record_bytes found
  found_stands = ap (λ n. take n (drop at s)) found_length ∙ found_bytes

  past_found : take (at + 1 + body_length (get_or s at 0)) s ≡ take at s ++ record_bytes found
  past_found =
      let e : at + 1 + body_length (get_or s at 0) ≡ at + (1 + body_length (get_or s at 0)) = omega arith in
      ap (λ n. take n s) e ∙ take-add at (1 + body_length (get_or s at 0)) s ∙ ap (λ l. take at s ++ l) found_bytes

-- one record more that keeps the rules
more_sofar :
    (s : List ℕ) (small : Bytes s) (at : ℕ) (known : get_or s at 0 ≤ 3) (inside : at + 1 + body_length (get_or s at 0) ≤ length s) (S : Sofar s at)
    → read_at s at ≡ Whole (found s small at known inside) (record { at = at + 1 + body_length (get_or s at 0) })
    → Keeps (with_all no_plan S.before) (found s small at known inside)
    → closes_of (found s small at known inside) ≡ false
    → Sofar s (at + 1 + body_length (get_or s at 0))
unfolding found
more_sofar s small at known inside S e w c =
    record {
      before = S.before ++ r ∷ [];
      keep = each_one_more no_plan S.before r S.keep c w;
      bytes = past_found s small at known inside ∙ ap (λ l. l ++ record_bytes r) S.bytes ∙ sym (bytes_one_more S.before r);
      begun = rw (with_one_more no_plan S.before r) (one_more_read p S.before r S.begun c w (small_read s small (get_or s at 0) (at + 1)));
      reading = rw (with_one_more no_plan S.before r, network_with p r room) (goes_on S.reading e kept c room);
    }
  where
    r : Record
    r = record_at s (get_or s at 0) (at + 1)

    p : Plan
    p = with_all no_plan S.before

    kept : rule_of (network_of p) r ≡ accepted
    kept = kept_gives_0 p S.begun.links_rise r w

    room : HasRoom (network_of p) r
    room = kept_has_room (network_of p) r kept

closing_is_kind_0 : (r : Record) → closes_of r ≡ true → r ≡ End
closing_is_kind_0 End c = refl
closing_is_kind_0 (Rounds v) c = absurd (true_not_false false c refl)
closing_is_kind_0 (Node number parent start) c = absurd (true_not_false false c refl)
closing_is_kind_0 (Link a b flag) c = absurd (true_not_false false c refl)

-- kind 0 after records that keep the rules
ended : (s : List ℕ) (at n : ℕ) (S : Sofar s at) → n ≤ length s → take n s ≡ take at s ++ 0 ∷ [] → 0 < length (with_all no_plan S.before).nodes → Accepted1to5 s n (network_of (with_all no_plan S.before))
ended s at n S l e h =
    record {
      plan = p;
      keeps = K;
      within = l;
      bytes = e ∙ ap (λ x. x ++ 0 ∷ []) (S.bytes ∙ ap records_bytes S.begun.records) ∙ plan_written p K.some_round;
      network = refl;
    }
  where
    p : Plan
    p = with_all no_plan S.before

    K : Keeps1to5 p
    K = ended_keeps p S.before S.begun h

-- what the records of any bytes come to
pub data Outcome (s : List ℕ) : Type 0 where
  taken : (n : ℕ) (net : Network) → lists_of s ≡ accepted_with n net → Accepted1to5 s n net → Outcome s
  stopped : (k w : ℕ) → (k ≡ accepted → ⊥) → lists_of s ≡ refused_with k w → Refused1to5 s k w → Outcome s

stops : (s : List ℕ) (at k : ℕ) (S : Sofar s at) → (k ≡ accepted → ⊥) → lists_of s ≡ refused_with k at → BreaksAt s at (with_all no_plan S.before) k → Outcome s
stops s at k S n e b =
    stopped k at n e (record { before = S.before; keep = S.keep; within = S.reading.within; bytes = S.bytes; breaks = b })

-- a whole record at the offset: a fault, kind 0, or one record more and `rest`
one_record :
    (s : List ℕ) (small : Bytes s) (at : ℕ) (known : get_or s at 0 ≤ 3) (inside : at + 1 + body_length (get_or s at 0) ≤ length s) (S : Sofar s at)
    → read_at s at ≡ Whole (found s small at known inside) (record { at = at + 1 + body_length (get_or s at 0) })
    → (Sofar s (at + 1 + body_length (get_or s at 0)) → Outcome s)
    → Outcome s
unfolding found
one_record s small at known inside S e rest =
    rule_cases p S.begun.links_rise r (λ x. rule_of (network_of p) r ≡ x → Outcome s) faulty (λ w q. kept w q (closes_of r) refl) refl
  where
    p : Plan
    p = with_all no_plan S.before

    r : Record
    r = record_at s (get_or s at 0) (at + 1)

    faulty : (k : ℕ) → BreaksFirst p r k → rule_of (network_of p) r ≡ k → Outcome s
    faulty k b q =
        stops s at k S (broken_is_no_0 b) (sym (at_fault S.reading e (λ z. broken_is_no_0 b (sym q ∙ z))) ∙ ap (λ x. refused_with x at) q) (whole r (found_stands s small at known inside) b)

    kept : Keeps p r → rule_of (network_of p) r ≡ accepted → (c : Bool) → closes_of r ≡ c → Outcome s
    kept w q true c =
        let o = closing_is_kind_0 r c in
        taken (at + 1 + body_length (get_or s at 0)) (network_of p) (sym (at_kind_0 S.reading e q c))
        (ended s at (at + 1 + body_length (get_or s at 0)) S inside (past_found s small at known inside ∙ ap (λ x. take at s ++ record_bytes x) o) (subst (Keeps p) o w).0)
    kept w q false c = rest (more_sofar s small at known inside S e w c)

outcome_from : (m : ℕ) (s : List ℕ) → Bytes s → (at : ℕ) → length s < m + at → Sofar s at → Outcome s
unfolding found
outcome_from zero s small at l S = absurd (omega (arith, S.reading.within))
outcome_from (suc m) s small at l S =
    read_cases s at (λ x. read_at s at ≡ x → Outcome s)
    (λ h e. let q : length s ≡ at = omega (arith, S.reading.within) in stops s at out_of_order S (λ z. omega arith) (sym (at_the_end S.reading e) ∙ ap (refused_with out_of_order) q) (bytes_end refl (sym q)))
    (λ i h e. stops s at kind_unknown S (λ z. omega arith) (sym (at_no_kind S.reading e)) (unknown refl i h))
    (λ i k h e. stops s at cut_short S (λ z. omega arith) (sym (at_cut_body S.reading e)) (short refl i k h))
    (λ k h e. one_record s small at k h S e (outcome_from m s small (at + 1 + body_length (get_or s at 0)) (omega arith)))
    refl

pub outcome : (s : List ℕ) → Bytes s → Outcome s
outcome s small = outcome_from (suc (length s)) s small 0 (omega arith) (nothing_yet s)
