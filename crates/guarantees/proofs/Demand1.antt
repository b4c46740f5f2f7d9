-- Demand 1, an entry point at a time: for all inputs the answer is one of that entry point's numbers, and what a refusal leaves is as it was. The
-- states are those that the struct's type allows (`Sized`), the bytes those of a slice (`Bytes`); of networks nothing is asked.
-- Assumes nothing.
use Prim.Native.Nat.{ℕ, ◌<◌}
use mathlib.Core.Path.{◌≡◌, refl, sym, ap, subst}
use mathlib.Core.Logic.{inl, inr}
use mathlib.Core.List.{List}
use lib.ListN.{length}
use Rattle.laws.specs.Lists.{Bytes}
use Rattle.laws.proofs.Choice.{b_elim, lt_elim}
use Rattle.network.specs.declared.Network.{Network}
use Rattle.network.specs.Valid.{valid_network}
use Rattle.records.specs.Planned.{Planned}
use Rattle.records.specs.Keeps.{BreaksAt, bytes_end, unknown, short, whole, BreaksFirst, order, number, range}
use Rattle.records.specs.Plan.{Plan}
use Rattle.records.specs.declared.Record.{Record}
use Rattle.network.specs.Zeros.{zero_network}
use Rattle.plan.specs.Accepted.{Refused, by_record, by_whole, Breaks6to10, by_6, by_7, by_8, by_9, by_10}
use Rattle.plan.specs.Checks.{plan_of}
use Rattle.plan.proofs.Answers as plan
use Rattle.lockstep.specs.Table.{table_number, table_of}
use Rattle.lockstep.proofs.Tables.{refused_unwritten}
use Rattle.synchronizer.specs.declared.State.{State}
use Rattle.synchronizer.specs.declared.Done.{Done}
use Rattle.synchronizer.specs.declared.Acted.{Acted}
use Rattle.synchronizer.specs.declared.Ran.{Ran}
use Rattle.synchronizer.specs.Start.{start_of}
use Rattle.synchronizer.specs.Valid.{Sized}
use Rattle.synchronizer.specs.Entry.{done_of, act_of, list_of}
use Rattle.automaton.specs.Actions.{Act, body_of}
use Rattle.automaton.specs.Answer.{answer}
use Rattle.automaton.specs.Global.{Global}
use Rattle.automaton.specs.Network.{Net}
use Rattle.guarantees.specs.Among.{Among, plan_numbers, start_numbers, method_numbers, action_numbers, table_numbers}
use Rattle.guarantees.specs.Kinds.{kind_of}
use Rattle.guarantees.specs.Reading.{net_of, read}
use Rattle.guarantees.specs.Outcome as outcome
use Rattle.guarantees.proofs.Outcomes.{method_outcome, act_outcome, list_outcome}
use Rattle.guarantees.proofs.Exactly.{answer_elim}

-- ---- tables and start states

pub table_answers : (net : Network) (rounds room : ℕ) → Among table_numbers (table_number net rounds room)
unfolding table_number
table_answers net rounds room =
    b_elim (Among table_numbers) (valid_network net) _ 17
    (λ _. lt_elim (Among table_numbers) net.rounds rounds 20 _ (λ _. inr (inr (inl refl))) (λ _. lt_elim (Among table_numbers) room net.nodes 21 0 (λ _. inr (inr (inr (inl refl)))) (λ _. inl refl)))
    (λ _. inr (inl refl))

-- a refused table leaves the buffer unwritten
pub table_refused : (net : Network) (rounds : ℕ) (out : List ℕ) → 0 < table_number net rounds (length out) → table_of net rounds out ≡ out
table_refused = refused_unwritten

pub start_answers : (net : Network) → Among start_numbers (start_of net).answer
unfolding start_of
start_answers net =
    b_elim {A = Done} (λ d. Among start_numbers d.answer) (valid_network net) _ _ (λ _. inl refl) (λ _. inr (inl refl))

-- ---- actions

answer_among : (net : Net ℕ) (g : Global ℕ) (a : Act) → Among method_numbers (answer net g a)
answer_among net g a =
    answer_elim (Among method_numbers) net g a (inl refl) (inr (inl refl)) (inr (inr (inl refl))) (inr (inr (inr (inl refl)))) (inr (inr (inr (inr (inl refl))))) (inr (inr (inr (inr (inr (inl refl))))))

-- a method's numbers are among an action's
widen : (k : ℕ) → Among method_numbers k → Among action_numbers k
widen k (inl e) = inl e
widen k (inr (inl e)) = inr (inl e)
widen k (inr (inr (inl e))) = inr (inr (inl e))
widen k (inr (inr (inr (inl e)))) = inr (inr (inr (inl e)))
widen k (inr (inr (inr (inr (inl e))))) = inr (inr (inr (inr (inl e))))
widen k (inr (inr (inr (inr (inr (inl e)))))) = inr (inr (inr (inr (inr (inl e)))))
widen k (inr (inr (inr (inr (inr (inr (inl e))))))) = inr (inr (inr (inr (inr (inr (inl e))))))
widen k (inr (inr (inr (inr (inr (inr (inr e))))))) = absurd e

module _ (net : Network) (s : State) (z : Sized s) where
  pub method_answers : (a : Act) → Among method_numbers (done_of net s (kind_of a) (body_of a).p (body_of a).q).answer
  method_answers a = by (method_outcome net s z a)
    where
      r : Done
      r = done_of net s (kind_of a) (body_of a).p (body_of a).q

      by : outcome.MethodOutcome net s a r → Among method_numbers r.answer
      by (outcome.MethodOutcome.out_of_range _ e) =
          subst (Among method_numbers) (sym (ap (λ (d : Done). d.answer) e)) (inr (inr (inr (inr (inr (inr (inl refl)))))))
      by (outcome.MethodOutcome.judged _ j) = subst (Among method_numbers) (sym j.number) (answer_among (net_of net) (read net s) a)

  pub action_answers : (bytes : List ℕ) → Among action_numbers (act_of net s bytes).answer
  action_answers bytes = by (act_outcome net s z bytes)
    where
      r : Acted
      r = act_of net s bytes

      is : (n : ℕ) → Among action_numbers n → r.answer ≡ n → Among action_numbers r.answer
      is n h e = subst (Among action_numbers) (sym e) h

      by : outcome.ActOutcome net s bytes r → Among action_numbers r.answer
      by (outcome.ActOutcome.out_of_range _ e) = is 17 (widen 17 (inr (inr (inr (inr (inr (inr (inl refl)))))))) (ap (λ (d : Acted). d.answer) e)
      by (outcome.ActOutcome.unknown _ _ e) = is 11 (inr (inr (inr (inr (inr (inr (inr (inl refl)))))))) (ap (λ (d : Acted). d.answer) e)
      by (outcome.ActOutcome.cut _ _ e) = is 12 (inr (inr (inr (inr (inr (inr (inr (inr (inl refl))))))))) (ap (λ (d : Acted). d.answer) e)
      by (outcome.ActOutcome.judged _ a width _ j _) = is (answer (net_of net) (read net s) a) (widen _ (answer_among (net_of net) (read net s) a)) j.number

  pub list_answers : (bytes : List ℕ) → Among action_numbers (list_of net s bytes).answer
  list_answers bytes = by (list_outcome net s z bytes)
    where
      r : Ran
      r = list_of net s bytes

      is : (n : ℕ) → Among action_numbers n → r.answer ≡ n → Among action_numbers r.answer
      is n h e = subst (Among action_numbers) (sym e) h

      stop : {g : Global ℕ} → outcome.Stopped (net_of net) g bytes r.place r.answer → Among action_numbers r.answer
      stop (outcome.Stopped.at_end _ e) = is 0 (inl refl) e
      stop (outcome.Stopped.unknown _ e) = is 11 (inr (inr (inr (inr (inr (inr (inr (inl refl)))))))) e
      stop (outcome.Stopped.cut _ _ e) = is 12 (inr (inr (inr (inr (inr (inr (inr (inr (inl refl))))))))) e
      stop {g} (outcome.Stopped.refused a width _ e _) = is (answer (net_of net) g a) (widen _ (answer_among (net_of net) g a)) e

      by : outcome.ListOutcome net s bytes r → Among action_numbers r.answer
      by (outcome.ListOutcome.out_of_range _ e) = is 17 (widen 17 (inr (inr (inr (inr (inr (inr (inl refl)))))))) (ap (λ (d : Ran). d.answer) e)
      by (outcome.ListOutcome.listed _ l) = stop l.stopped

-- ---- plans

broken_among : {p : Plan} {r : Record} {k : ℕ} → BreaksFirst p r k → Among plan_numbers k
broken_among (order e _) = inr (inr (inr (inl e)))
broken_among (number e _ _) = inr (inr (inr (inr (inl e))))
broken_among (range e _ _ _) = inr (inr (inr (inr (inr (inl e)))))

record_among : {s : List ℕ} {w k : ℕ} {p : Plan} → BreaksAt s w p k → Among plan_numbers k
record_among (bytes_end e _) = inr (inr (inr (inl e)))
record_among (unknown e _ _) = inr (inl e)
record_among (short e _ _ _) = inr (inr (inl e))
record_among (whole r _ b) = broken_among b

whole_among : {net : Network} {k w : ℕ} → Breaks6to10 net k w → Among plan_numbers k
whole_among (by_6 e _) = inr (inr (inr (inr (inr (inr (inl e))))))
whole_among (by_7 e _ _) = inr (inr (inr (inr (inr (inr (inr (inl e)))))))
whole_among (by_8 e _ _ _) = inr (inr (inr (inr (inr (inr (inr (inr (inl e))))))))
whole_among (by_9 e _ _ _ _) = inr (inr (inr (inr (inr (inr (inr (inr (inr (inl e)))))))))
whole_among (by_10 e _ _ _ _ _) = inr (inr (inr (inr (inr (inr (inr (inr (inr (inr (inl e))))))))))

refused_among : {s : List ℕ} {k w : ℕ} → Refused s k w → Among plan_numbers k
refused_among (by_record f) = record_among f.breaks
refused_among (by_whole n net _ b) = whole_among b

-- the plan's answer, and "a refused plan hands back a network of zeros"
pub plan_answers : (s : List ℕ) → Bytes s → Among plan_numbers (plan_of s).number × (((plan_of s).number ≡ 0 → ⊥) → (plan_of s).network ≡ zero_network)
plan_answers s small = by (plan.outcome s small)
  where
    by : plan.Outcome s → Among plan_numbers (plan_of s).number × (((plan_of s).number ≡ 0 → ⊥) → (plan_of s).network ≡ zero_network)
    by (plan.Outcome.taken n net e _) = (inl (ap (λ (r : Planned). r.number) e), (λ d. absurd (d (ap (λ (r : Planned). r.number) e))))
    by (plan.Outcome.stopped k w _ e f) =
        (subst (Among plan_numbers) (sym (ap (λ (r : Planned). r.number) e)) (refused_among f), (λ _. ap (λ (r : Planned). r.network) e))
