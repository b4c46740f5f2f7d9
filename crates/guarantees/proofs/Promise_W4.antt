-- W4: the promise of a layout over the contracts of its entry points, as the checker generates them; and its numbers, no more and no fewer.
-- Assumes nothing.
use Prim.Native.Nat.{ℕ}
use native.Mathlib.Omega.{arith}
use mathlib.Core.Path.{◌≡◌, refl, sym, subst}
use mathlib.Core.Logic.{inl, inr}
use mathlib.Core.List.{List}
use lib.ListN.{length}
use Rattle.laws.specs.Lists.{Bytes}
use Rattle.records.specs.Keeps.{BreaksAt, bytes_end, unknown, short, whole, BreaksFirst, order, number, range}
use Rattle.records.specs.Plan.{Plan}
use Rattle.records.specs.declared.Record.{Record}
use Rattle.layout.specs.Laid.{Laid, laid_of}
use Rattle.layout.specs.Answers.{LayoutAnswer, by_record, by_10, by_22, by_23, laid_out_lem, Written}
use Rattle.layout.specs.Layout.{layout_of, laid_in}
use Rattle.layout.proofs.Answers.{layout_exactly}
use Rattle.layout.proofs.Buffer.{laid_refused, laid_so}
use Rattle.layout.proofs.Written.{written_plan}
use Rattle.layout.proofs.Worked.{Comes, each_comes}
use Rattle.layout.proofs.layout.Kinds as layout_kinds
use Rattle.layout.proofs.layout.Reads as layout_reads
use Rattle.teravulk.proofs.teravulk_layout.Kinds as teravulk_layout_kinds
use Rattle.teravulk.proofs.teravulk_layout.Reads as teravulk_layout_reads
use Rattle.guarantees.specs.Among.{Among}
use Rattle.plan.specs.Accepted.{plan_network}
use Rattle.synchronizer.specs.declared.State.{State}
use Rattle.guarantees.specs.Promise.{Reachable, Demand3}
use Rattle.guarantees.proofs.Promise.{Meets}
use Rattle.guarantees.proofs.Promised.{reached_demand_3}
use Rattle.guarantees.specs.Promise_W4.{LayoutPromise, layout_numbers}

-- ---- the promise

module _ (s : List ℕ) (small : Bytes s) (depth : ℕ) (out : List ℕ) where
  abbrev answered : Laid
  answered = layout_of s depth (length out)

  layout_promised : LayoutPromise s depth out answered.number answered.place (laid_in s depth out)
  layout_promised =
      record {
        answer = (layout_exactly s depth (length out) small answered.number answered.place).0 refl;
        refused = λ h. laid_refused s depth out (λ e. omega arith);
        written = laid_so s depth out small;
      }

layout_promise :
    (s : List ℕ) (depth : ℕ) (out : List ℕ) (r : Laid) (after : List ℕ) → r ≡ layout_of s depth (length out) → after ≡ laid_in s depth out → Bytes s
    → LayoutPromise s depth out r.number r.place after
layout_promise s depth out r after e f small =
    subst (λ xs. LayoutPromise s depth out r.number r.place xs) (sym f)
    (subst (λ (x : Laid). LayoutPromise s depth out x.number x.place (laid_in s depth out)) (sym e) (layout_promised s small depth out))

pub layout :
    Meets _ layout_kinds.ps layout_kinds.r layout_reads.Post (λ κs a x t. LayoutPromise a.0.now a.1.0 a.1.1.0.now (laid_of x).number (laid_of x).place t.1.1.0.now)
layout κs a x t p = layout_promise a.0.now a.1.0 a.1.1.0.now (laid_of x) t.1.1.0.now p.0 p.1.0 p.1.1

pub teravulk_layout :
    Meets _ teravulk_layout_kinds.ps teravulk_layout_kinds.r teravulk_layout_reads.Post (λ κs a x t. LayoutPromise a.0.now a.1.0 a.1.1.0.now x t.1.1.1.0.now t.1.1.0.now)
teravulk_layout κs a x t p =
    subst (λ (y : ℕ × ℕ × List ℕ). LayoutPromise a.0.now a.1.0 a.1.1.0.now y.0 y.1 y.2) (λ i. (sym p.0 i, sym p.1.0 i, sym p.1.1.0 i))
    (layout_promised a.0.now p.1.1.1 a.1.0 a.1.1.0.now)

-- ---- demand 3 holds of what is laid out

pub laid_demand_3 :
    {s : List ℕ} {depth : ℕ} {before : List ℕ} {n : ℕ} {after : List ℕ} (W : Written s depth before n after) (st : State)
    → Reachable (plan_network W.laid_plan_lem) st
    → Demand3 (plan_network W.laid_plan_lem) st
laid_demand_3 W = reached_demand_3 (plan_network W.laid_plan_lem) (written_plan W)

-- ---- its numbers

record_among : {s : List ℕ} {w : ℕ} {p : Plan} {k : ℕ} → BreaksAt s w p k → Among layout_numbers k
record_among (bytes_end e _) = inr (inr (inr (inl e)))
record_among (unknown e _ _) = inr (inl e)
record_among (short e _ _ _) = inr (inr (inl e))
record_among {p = p} (whole r _ b) = rule_among b
  where
    rule_among : {r : Record} {k : ℕ} → BreaksFirst p r k → Among layout_numbers k
    rule_among (order e _) = inr (inr (inr (inl e)))
    rule_among (number e _ _) = inr (inr (inr (inr (inl e))))
    rule_among (range e _ _ _) = inr (inr (inr (inr (inr (inl e)))))

pub layout_answers : {s : List ℕ} {depth room k w : ℕ} → LayoutAnswer s depth room k w → Among layout_numbers k
layout_answers (by_record f) = record_among f.breaks
layout_answers (by_10 n p e _ _) = inr (inr (inr (inr (inr (inr (inl e))))))
layout_answers (by_22 n p e _ _ _ _) = inr (inr (inr (inr (inr (inr (inr (inl e)))))))
layout_answers (by_23 n p e _ _ _ _ _) = inr (inr (inr (inr (inr (inr (inr (inr (inl e))))))))
layout_answers (laid_out_lem p e _ _ _ _) = inl e

-- each of them comes back for some bytes, depth and buffer
pub layout_comes : (k : ℕ) → Among layout_numbers k → Comes k
layout_comes k (inl e) = subst Comes (sym e) each_comes.laid_out_lem
layout_comes k (inr (inl e)) = subst Comes (sym e) each_comes.unknown
layout_comes k (inr (inr (inl e))) = subst Comes (sym e) each_comes.cut_short_lem
layout_comes k (inr (inr (inr (inl e)))) = subst Comes (sym e) each_comes.out_of_order_lem
layout_comes k (inr (inr (inr (inr (inl e))))) = subst Comes (sym e) each_comes.too_many_lem
layout_comes k (inr (inr (inr (inr (inr (inl e)))))) = subst Comes (sym e) each_comes.out_of_range_lem
layout_comes k (inr (inr (inr (inr (inr (inr (inl e))))))) = subst Comes (sym e) each_comes.unjoined
layout_comes k (inr (inr (inr (inr (inr (inr (inr (inl e)))))))) = subst Comes (sym e) each_comes.too_deep_lem
layout_comes k (inr (inr (inr (inr (inr (inr (inr (inr (inl e))))))))) = subst Comes (sym e) each_comes.no_room_lem
layout_comes k (inr (inr (inr (inr (inr (inr (inr (inr (inr x))))))))) = elim x [ ]
