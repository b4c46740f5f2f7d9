-- From what the bytes hold to the answer. Records that keep the rules one after the other are read through to their end, with their network;
-- there kind 0 is accepted, and whatever breaks a rule is refused by its number.
-- Assumes nothing.
use Prim.Native.Nat.{ℕ, ◌+◌, ◌<◌, ◌≤◌}
use native.Mathlib.Omega.{arith}
use mathlib.Core.Path.{◌≡◌, refl, sym, ◌∙◌, ap, ap₂, subst}
use mathlib.Core.List.{List, [], ◌∷◌, ◌++◌, append_assoc}
use lib.ListN.{length, take, drop, length-append, take-append-drop}
use lib.Seq.{length-take-le, drop-drop, take-append_seam, drop-append_seam}
use Rattle.network.specs.declared.Network.{Network}
use Rattle.records.specs.declared.Record.{Record}
use Rattle.records.specs.declared.Record.TheVariants.{End, Rounds, Node, Link}
use Rattle.records.specs.Numbers.{accepted}
use Rattle.records.specs.Reader.{refused_with, accepted_with, lists_of}
use Rattle.records.specs.Plan.{Plan, bytes_of, network_of, Rising}
use Rattle.records.specs.Keeps.{record_bytes, no_plan, with, Keeps, EachKeeps, with_all, records_bytes, BreaksAt, bytes_end, unknown, short, whole, Accepted1to5, Refused1to5}
use Rattle.records.proofs.Begun.{not_end_goes, records_of, plan_written, records_keep, records_add_up}
use Rattle.records.proofs.Codec.{nothing_there, no_kind_there, cut_there, written_is_read}
use Rattle.records.proofs.Keeping.{kept_gives_0, broken_gives_its_number, broken_is_no_0}
use Rattle.records.proofs.Networks.{network_of_none, network_with}
use Rattle.records.proofs.Rules.{kept_has_room}
use Rattle.records.proofs.Turns.{Reading, starts, at_the_end, at_no_kind, at_cut_body, at_fault, at_kind_0, goes_on}

-- the bytes from an offset on begin with these
Holds : List ℕ → ℕ → List ℕ → Type 0
Holds s at bs = (t : List ℕ) × (drop at s ≡ bs ++ t)

holds_front : (s : List ℕ) (at : ℕ) (bs cs : List ℕ) → Holds s at (bs ++ cs) → take (length bs) (drop at s) ≡ bs
unfolding Holds
holds_front s at bs cs (t, e) = ap (take (length bs)) (e ∙ append_assoc bs cs t) ∙ take-append_seam bs (cs ++ t)

holds_rest : (s : List ℕ) (at : ℕ) (bs cs : List ℕ) → Holds s at (bs ++ cs) → Holds s (at + length bs) cs
unfolding Holds
holds_rest s at bs cs (t, e) =
    (t, sym (drop-drop (length bs) at s) ∙ ap (drop (length bs)) (e ∙ append_assoc bs cs t) ∙ drop-append_seam bs (cs ++ t))

still_rising : (p : Plan) (r : Record) → Rising p.links → Keeps p r → Rising (with p r).links
still_rising p End o k = o
still_rising p (Rounds v) o k = o
still_rising p (Node number parent start) o k = o
still_rising p (Link a b flag) o k = k.0.1

-- bytes that hold records from an offset on, each keeping the rules, are read through to their end
reads_through : (s : List ℕ) (p : Plan) (rs : List Record) (at : ℕ) → EachKeeps p rs → Rising p.links → Holds s at (records_bytes rs) → Reading s at (network_of p) → Rising (with_all p rs).links × Reading s (at + length (records_bytes rs)) (network_of (with_all p rs))
unfolding EachKeeps with_all records_bytes
reads_through s p [] at k o h R =
    let e : at ≡ at + 0 = omega arith in
    (o, subst (λ n. Reading s n (network_of p)) e R)
reads_through s p (r ∷ rs) at k o h R =
    let bs = record_bytes r in
    let cs = records_bytes rs in
    let kept = kept_gives_0 p o r k.1 in
    let room = kept_has_room (network_of p) r kept in
    let next = goes_on R (written_is_read s at r (holds_front s at bs cs h)) kept (not_end_goes r k.0) room in
    let (o', R') = reads_through s (with p r) rs (at + length bs) k.2 (still_rising p r o k.1) (holds_rest s at bs cs h) (rw (network_with p r room) next) in
    let e : at + length bs + length cs ≡ at + length (bs ++ cs) = omega (arith, length-append bs cs) in
    (o', subst (λ n. Reading s n (network_of (with_all (with p r) rs))) e R')

-- records that the first w bytes are
read_before : (s : List ℕ) (rs : List Record) (w : ℕ) → EachKeeps no_plan rs → Holds s 0 (records_bytes rs) → w ≡ length (records_bytes rs) → Rising (with_all no_plan rs).links × Reading s w (network_of (with_all no_plan rs))
unfolding Rising
read_before s rs w k h e =
    let (o, R) = reads_through s no_plan rs 0 k tt h (rw network_of_none (starts s)) in
    let q : 0 + length (records_bytes rs) ≡ w = omega arith in
    (o, subst (λ n. Reading s n (network_of (with_all no_plan rs))) q R)

-- the first n bytes as a beginning of all of them
first_bytes : (s : List ℕ) (n : ℕ) (bs : List ℕ) → take n s ≡ bs → s ≡ bs ++ drop n s
first_bytes s n bs e = sym (take-append-drop n s) ∙ ap (λ l. l ++ drop n s) e

pub refused_answer : (s : List ℕ) (k w : ℕ) → Refused1to5 s k w → lists_of s ≡ refused_with k w
unfolding Holds
refused_answer s k w F = at_place F.breaks
  where
    p : Plan
    p = with_all no_plan F.before

    known : Rising p.links × Reading s w (network_of p)
    known =
        read_before s F.before w F.keep (drop w s, first_bytes s w (records_bytes F.before) F.bytes) (sym (length-take-le w s F.within) ∙ ap length F.bytes)

    at_place : BreaksAt s w p k → lists_of s ≡ refused_with k w
    at_place (bytes_end e l) =
        sym (at_the_end known.1 (nothing_there s w (omega arith))) ∙ ap₂ refused_with (sym e) (sym l)
    at_place (unknown e i h) = sym (at_no_kind known.1 (no_kind_there s w i h)) ∙ ap (λ x. refused_with x w) (sym e)
    at_place (short e i l h) = sym (at_cut_body known.1 (cut_there s w i l h)) ∙ ap (λ x. refused_with x w) (sym e)
    at_place (whole r stands b) =
        let given = broken_gives_its_number p known.0 r k b in
        sym (at_fault known.1 (written_is_read s w r stands) (λ z. broken_is_no_0 b (sym given ∙ z))) ∙ ap (λ x. refused_with x w) given

-- records that keep the rules, and kind 0 behind them after a node: the plan ends there
pub closed_answer : (s : List ℕ) (rs : List Record) (w : ℕ) → EachKeeps no_plan rs → w ≤ length s → take w s ≡ records_bytes rs → take 1 (drop w s) ≡ 0 ∷ [] → 0 < length (with_all no_plan rs).nodes → lists_of s ≡ accepted_with (w + 1) (network_of (with_all no_plan rs))
unfolding Holds
closed_answer s rs w k within e kind_0 some =
    let known = read_before s rs w k (drop w s, first_bytes s w (records_bytes rs) e) (sym (length-take-le w s within) ∙ ap length e) in
    sym (at_kind_0 known.1 (written_is_read s w End kind_0) (kept_gives_0 (with_all no_plan rs) known.0 End (some, tt, tt)) refl)

-- the records of an accepted plan, and kind 0 behind them
pub record Closed (s : List ℕ) (n : ℕ) (p : Plan) : Type 0 where
  pub before : take (length (records_bytes (records_of p))) s ≡ records_bytes (records_of p)
  pub kind_0 : take 1 (drop (length (records_bytes (records_of p))) s) ≡ 0 ∷ []
  pub ends : length (records_bytes (records_of p)) + 1 ≡ n

pub accepted_closed : (s : List ℕ) (n : ℕ) (net : Network) (A : Accepted1to5 s n net) → Closed s n A.plan
unfolding Holds
accepted_closed s n net A = record { before = before; kind_0 = kind_0; ends = ends }
  where
    p : Plan
    p = A.plan

    bs : List ℕ
    bs = records_bytes (records_of p)

    written : bs ++ 0 ∷ [] ≡ bytes_of p
    written = plan_written p A.keeps.some_round

    all : s ≡ bs ++ 0 ∷ [] ++ drop n s
    all = first_bytes s n (bs ++ 0 ∷ []) (A.bytes ∙ sym written)

    before : take (length bs) s ≡ bs
    before = ap (take (length bs)) (all ∙ append_assoc bs (0 ∷ []) (drop n s)) ∙ take-append_seam bs (0 ∷ [] ++ drop n s)

    kind_0 : take 1 (drop (length bs) s) ≡ 0 ∷ []
    kind_0 =
        let e : 0 + length bs ≡ length bs = omega arith in
        subst (λ i. take 1 (drop i s) ≡ 0 ∷ []) e (holds_front s (0 + length bs) (0 ∷ []) [] (holds_rest s 0 bs (0 ∷ []) (drop n s, all)))

    ends : length bs + 1 ≡ n
    ends = omega (arith, length-take-le n s A.within, ap length A.bytes, ap length written, length-append bs (0 ∷ []))

pub accepted_answer : (s : List ℕ) (n : ℕ) (net : Network) → Accepted1to5 s n net → lists_of s ≡ accepted_with n net
accepted_answer s n net A =
    let c = accepted_closed s n net A in
    let sum : with_all no_plan (records_of A.plan) ≡ A.plan = records_add_up A.plan A.keeps in
    closed_answer s (records_of A.plan) (length (records_bytes (records_of A.plan))) (records_keep A.plan A.keeps) (omega (arith, c.ends, A.within)) c.before c.kind_0 (rw sum A.keeps.some_node)
    ∙ ap₂ accepted_with c.ends (ap network_of sum ∙ sym A.network)

-- a refusal has a number of its own
pub refused_is_no_0 : {s : List ℕ} {k w : ℕ} → Refused1to5 s k w → k ≡ accepted → ⊥
refused_is_no_0 F = at_place F.breaks
  where
    at_place : {s : List ℕ} {w k : ℕ} {p : Plan} → BreaksAt s w p k → k ≡ accepted → ⊥
    at_place (bytes_end e _) z = omega arith
    at_place (unknown e _ _) z = omega arith
    at_place (short e _ _ _) z = omega arith
    at_place (whole r _ b) z = broken_is_no_0 b z
