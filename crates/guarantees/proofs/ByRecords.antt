-- A plan accepted or refused record by record, as the promise has it, and as `plan` has it, over a plan's own bytes: the two are the same.
-- Assumes nothing.
use Prim.Native.Nat.{ℕ, ◌<◌}
use native.Mathlib.Omega.{arith}
use mathlib.Core.Path.{◌≡◌, refl, sym, ◌∙◌, ap, ap₂, subst}
use mathlib.Core.List.{List}
use lib.ListN.{length}
use Rattle.laws.specs.Lists.{Bytes}
use Rattle.network.specs.declared.Network.{Network}
use Rattle.network.specs.Sets.{with_sets}
use Rattle.records.specs.Plan.{Plan, network_of}
use Rattle.records.specs.Keeps.{no_plan, with_all, records_bytes, BreaksAt, Accepted1to5}
use Rattle.records.specs.Reader.{accepted_with}
use Rattle.records.proofs.Begun.{records_of, records_keep, records_add_up}
use Rattle.records.proofs.Answers.{answer_accepted}
use Rattle.records.proofs.Through.{closed_answer, accepted_closed}
use Rattle.plan.specs.Accepted as plan
use Rattle.plan.specs.Accepted.{Keeps6to10, Breaks6to10}
use Rattle.guarantees.specs.Plans as page
use Rattle.guarantees.specs.Plans.{ReadTo, Ended}

-- ---- from the records to the plan

ended_lists : (s : List ℕ) (n : ℕ) (p : Plan) → Ended s n p → Accepted1to5 s n (network_of p)
ended_lists s n p E =
    let r = E.read in
    answer_accepted s E.small n (network_of p)
    (closed_answer s r.records E.before r.keep r.within r.bytes E.kind_0 (subst (λ (q : Plan). 0 < length q.nodes) r.plan E.in_order)
    ∙ ap₂ accepted_with (sym E.all) (ap network_of (sym r.plan)))

pub accepted_from : {s : List ℕ} {n : ℕ} {net : Network} → page.Accepted s n net → plan.Accepted s n net
accepted_from {s} {n} {net} A =
    let L = ended_lists s n A.plan A.ended in
    let same : with_sets (network_of A.plan) ≡ with_sets (network_of L.plan) = ap with_sets L.network in
    record {
      plan = L.plan;
      keeps_records = L.keeps;
      keeps_whole = subst Keeps6to10 same A.whole;
      within = L.within;
      bytes = L.bytes;
      network = A.network ∙ same;
    }

pub refused_from : {s : List ℕ} {k w : ℕ} → page.Refused s k w → plan.Refused s k w
refused_from {s} {k} {w} (page.Refused.by_record p r b) =
    plan.by_record (record { before = r.records; keep = r.keep; within = r.within; bytes = r.bytes; breaks = subst (λ (q : Plan). BreaksAt s w q k) r.plan b })
refused_from {s} (page.Refused.by_whole n p E b) = plan.by_whole n (network_of p) (ended_lists s n p E) b

-- ---- from the plan to its records

lists_ended : (s : List ℕ) → Bytes s → (n : ℕ) (net : Network) (A : Accepted1to5 s n net) → Ended s n A.plan
lists_ended s small n net A =
    let c = accepted_closed s n net A in
    record {
      before = length (records_bytes (records_of A.plan));
      read = record {
        records = records_of A.plan;
        keep = records_keep A.plan A.keeps;
        within = omega (arith, c.ends, A.within);
        bytes = c.before;
        plan = sym (records_add_up A.plan A.keeps);
      };
      kind_0 = c.kind_0;
      in_order = A.keeps.some_node;
      all = sym c.ends;
      small = small;
    }

pub accepted_to : {s : List ℕ} {n : ℕ} {net : Network} → Bytes s → plan.Accepted s n net → page.Accepted s n net
accepted_to {s} {n} {net} small A =
    record {
      plan = A.plan;
      ended = lists_ended s small n (network_of A.plan) (record { plan = A.plan; keeps = A.keeps_records; within = A.within; bytes = A.bytes; network = refl });
      whole = A.keeps_whole;
      network = A.network;
    }

pub refused_to : {s : List ℕ} {k w : ℕ} → Bytes s → plan.Refused s k w → page.Refused s k w
refused_to small (plan.by_record F) =
    page.Refused.by_record (with_all no_plan F.before) (record { records = F.before; keep = F.keep; within = F.within; bytes = F.bytes; plan = refl }) F.breaks
refused_to {s} {k} {w} small (plan.by_whole n net A b) =
    page.Refused.by_whole n A.plan (lists_ended s small n net A) (subst (λ (x : Network). Breaks6to10 (with_sets x) k w) A.network b)
