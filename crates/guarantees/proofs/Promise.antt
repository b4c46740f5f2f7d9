-- The promise of `specs/Promise.antt`, of each public entry point: one theorem for each, over its contract as the checker generates it (`Post` of the
-- function's `Reads`), so that a contract that is rewritten to cite another definition breaks its line. No theorem has a hypothesis.
-- Assumes nothing.
use Prim.Native.Nat.{ℕ}
use mathlib.Core.Path.{◌≡◌, sym, subst}
use mathlib.Core.List.{List}
use contract.Lifetimes.{Lfts}
use denote.Triple.Clauses.{AtExit}
use borrow.Fn.Kinds.{ParamKind, ResultKind, Out, Dens, res_t, ended_of}
use Rattle.network.specs.declared.Network.{Network}
use Rattle.synchronizer.specs.declared.State.{State}
use Rattle.synchronizer.specs.declared.Done.{Done}
use Rattle.synchronizer.specs.Entry.{done_of}
use Rattle.synchronizer.specs.Valid.{Sized}
use Rattle.automaton.specs.Actions as actions
use Rattle.automaton.specs.Actions.{Act, body_of}
use Rattle.guarantees.specs.Kinds.{kind_of}
use Rattle.guarantees.specs.Outcome.{MethodOutcome, ActOutcome, ListOutcome}
use Rattle.guarantees.specs.Promise.{PlanPromise, StartPromise, TablePromise, TrialPromise}
use Rattle.guarantees.proofs.Outcomes.{method_outcome, act_outcome, list_outcome}
use Rattle.guarantees.proofs.Promised.{plan_promise, start_promise, table_promise, trial_promise}
use Rattle.answers.specs.Numbers.{answer_of}
use Rattle.records.specs.Planned.{planned_of, handed_of}
use Rattle.plan.proofs.read_plan.Kinds as read_plan_kinds
use Rattle.plan.proofs.read_plan.Reads as read_plan_reads
use Rattle.plan.proofs.read_plan_into.Kinds as read_plan_into_kinds
use Rattle.plan.proofs.read_plan_into.Reads as read_plan_into_reads
use Rattle.lockstep.proofs.table.Kinds as table_kinds
use Rattle.lockstep.proofs.table.Reads as table_reads
use Rattle.report.proofs.trial.Kinds as trial_kinds
use Rattle.report.proofs.trial.Reads as trial_reads
use Rattle.teravulk.proofs.teravulk_trial.Kinds as teravulk_trial_kinds
use Rattle.teravulk.proofs.teravulk_trial.Reads as teravulk_trial_reads
use Rattle.synchronizer.proofs.State.start.Kinds as start_kinds
use Rattle.synchronizer.proofs.State.start.Reads as start_reads
use Rattle.synchronizer.proofs.State.output.Kinds as output_kinds
use Rattle.synchronizer.proofs.State.output.Reads as output_reads
use Rattle.synchronizer.proofs.State.packet_sent.Kinds as packet_sent_kinds
use Rattle.synchronizer.proofs.State.packet_sent.Reads as packet_sent_reads
use Rattle.synchronizer.proofs.State.packet_delivered.Kinds as packet_delivered_kinds
use Rattle.synchronizer.proofs.State.packet_delivered.Reads as packet_delivered_reads
use Rattle.synchronizer.proofs.State.ack_sent.Kinds as ack_sent_kinds
use Rattle.synchronizer.proofs.State.ack_sent.Reads as ack_sent_reads
use Rattle.synchronizer.proofs.State.ack_delivered.Kinds as ack_delivered_kinds
use Rattle.synchronizer.proofs.State.ack_delivered.Reads as ack_delivered_reads
use Rattle.synchronizer.proofs.State.ok.Kinds as ok_kinds
use Rattle.synchronizer.proofs.State.ok.Reads as ok_reads
use Rattle.synchronizer.proofs.State.subtree_ok_sent.Kinds as subtree_ok_sent_kinds
use Rattle.synchronizer.proofs.State.subtree_ok_sent.Reads as subtree_ok_sent_reads
use Rattle.synchronizer.proofs.State.subtree_ok_delivered.Kinds as subtree_ok_delivered_kinds
use Rattle.synchronizer.proofs.State.subtree_ok_delivered.Reads as subtree_ok_delivered_reads
use Rattle.synchronizer.proofs.State.cluster_ok.Kinds as cluster_ok_kinds
use Rattle.synchronizer.proofs.State.cluster_ok.Reads as cluster_ok_reads
use Rattle.synchronizer.proofs.State.down_sent.Kinds as down_sent_kinds
use Rattle.synchronizer.proofs.State.down_sent.Reads as down_sent_reads
use Rattle.synchronizer.proofs.State.down_delivered.Kinds as down_delivered_kinds
use Rattle.synchronizer.proofs.State.down_delivered.Reads as down_delivered_reads
use Rattle.synchronizer.proofs.State.preferred_sent.Kinds as preferred_sent_kinds
use Rattle.synchronizer.proofs.State.preferred_sent.Reads as preferred_sent_reads
use Rattle.synchronizer.proofs.State.preferred_delivered.Kinds as preferred_delivered_kinds
use Rattle.synchronizer.proofs.State.preferred_delivered.Reads as preferred_delivered_reads
use Rattle.synchronizer.proofs.State.up_sent.Kinds as up_sent_kinds
use Rattle.synchronizer.proofs.State.up_sent.Reads as up_sent_reads
use Rattle.synchronizer.proofs.State.up_delivered.Kinds as up_delivered_kinds
use Rattle.synchronizer.proofs.State.up_delivered.Reads as up_delivered_reads
use Rattle.synchronizer.proofs.State.cluster_go.Kinds as cluster_go_kinds
use Rattle.synchronizer.proofs.State.cluster_go.Reads as cluster_go_reads
use Rattle.synchronizer.proofs.State.subtree_go_sent.Kinds as subtree_go_sent_kinds
use Rattle.synchronizer.proofs.State.subtree_go_sent.Reads as subtree_go_sent_reads
use Rattle.synchronizer.proofs.State.subtree_go_delivered.Kinds as subtree_go_delivered_kinds
use Rattle.synchronizer.proofs.State.subtree_go_delivered.Reads as subtree_go_delivered_reads
use Rattle.synchronizer.proofs.State.go.Kinds as go_kinds
use Rattle.synchronizer.proofs.State.go.Reads as go_reads
use Rattle.synchronizer.proofs.State.input.Kinds as input_kinds
use Rattle.synchronizer.proofs.State.input.Reads as input_reads
use Rattle.synchronizer.proofs.State.act.Kinds as act_kinds
use Rattle.synchronizer.proofs.State.act.Reads as act_reads
use Rattle.synchronizer.proofs.State.run.Kinds as run_kinds
use Rattle.synchronizer.proofs.State.run.Reads as run_reads

-- whatever a contract allows meets a promise over the arguments, the result and what was lent
abbrev pub Meets : (n : ℕ) (ps : List (ParamKind n)) (r : ResultKind n) → Out n ps r → ((κs : Lfts n) → Dens κs ps → (res_t r κs).Denot → AtExit (ended_of n ps r) κs → Type 0) → Type 0
Meets n ps r Post P = (κs : Lfts n) (a : Dens κs ps) (x : (res_t r κs).Denot) (t : AtExit (ended_of n ps r) κs) → Post κs a x t → P κs a x t

-- ---- the plan reader, the start state, the table

pub read_plan : Meets _ read_plan_kinds.ps read_plan_kinds.r read_plan_reads.Post (λ κs a x t. PlanPromise a.0.now (planned_of x))
read_plan κs a x t p = subst (PlanPromise a.0.now) (sym p.0) (plan_promise a.0.now p.1)

pub read_plan_into : Meets _ read_plan_into_kinds.ps read_plan_into_kinds.r read_plan_into_reads.Post (λ κs a x t. PlanPromise a.0.now (handed_of x t.1.0.now))
read_plan_into κs a x t p = subst (PlanPromise a.0.now) (sym p.0) (plan_promise a.0.now p.1)

pub start : Meets _ start_kinds.ps start_kinds.r start_reads.Post (λ κs a x t. StartPromise a.0 x)
start κs a x t p = subst (StartPromise a.0) (sym p) (start_promise a.0)

pub table : Meets _ table_kinds.ps table_kinds.r table_reads.Post (λ κs a x t. TablePromise a.0 a.1.0 a.1.1.0.now (answer_of x) t.1.1.0.now)
table κs a x t p =
    subst (λ (y : ℕ × List ℕ). TablePromise a.0 a.1.0 a.1.1.0.now y.0 y.1) (λ i. (sym p.0.0 i, sym p.0.1 i))
    (table_promise a.0 p.1 a.1.0 a.1.1.0.now)

-- ---- the twenty methods

method : (net : Network) (s : State) (a : Act) (r : Done) → r ≡ done_of net s (kind_of a) (body_of a).p (body_of a).q → Sized s → MethodOutcome net s a r
method net s a r e z = subst (MethodOutcome net s a) (sym e) (method_outcome net s z a)

pub output : Meets _ output_kinds.ps output_kinds.r output_reads.Post (λ κs a x t. MethodOutcome a.1.0 a.0 (actions.output a.1.1.0) x)
unfolding kind_of body_of
output κs a x t p = method a.1.0 a.0 (actions.output a.1.1.0) x p.0 p.1

pub packet_sent_lem : Meets _ packet_sent_kinds.ps packet_sent_kinds.r packet_sent_reads.Post (λ κs a x t. MethodOutcome a.1.0 a.0 (actions.packet_sent a.1.1.0 a.1.1.1.0) x)
unfolding kind_of body_of
packet_sent_lem κs a x t p = method a.1.0 a.0 (actions.packet_sent a.1.1.0 a.1.1.1.0) x p.0 p.1

pub packet_delivered_lem : Meets _ packet_delivered_kinds.ps packet_delivered_kinds.r packet_delivered_reads.Post (λ κs a x t. MethodOutcome a.1.0 a.0 (actions.packet_delivered a.1.1.0 a.1.1.1.0) x)
unfolding kind_of body_of
packet_delivered_lem κs a x t p = method a.1.0 a.0 (actions.packet_delivered a.1.1.0 a.1.1.1.0) x p.0 p.1

pub ack_sent_lem : Meets _ ack_sent_kinds.ps ack_sent_kinds.r ack_sent_reads.Post (λ κs a x t. MethodOutcome a.1.0 a.0 (actions.ack_sent a.1.1.0 a.1.1.1.0) x)
unfolding kind_of body_of
ack_sent_lem κs a x t p = method a.1.0 a.0 (actions.ack_sent a.1.1.0 a.1.1.1.0) x p.0 p.1

pub ack_delivered_lem : Meets _ ack_delivered_kinds.ps ack_delivered_kinds.r ack_delivered_reads.Post (λ κs a x t. MethodOutcome a.1.0 a.0 (actions.ack_delivered a.1.1.0 a.1.1.1.0) x)
unfolding kind_of body_of
ack_delivered_lem κs a x t p = method a.1.0 a.0 (actions.ack_delivered a.1.1.0 a.1.1.1.0) x p.0 p.1

pub ok : Meets _ ok_kinds.ps ok_kinds.r ok_reads.Post (λ κs a x t. MethodOutcome a.1.0 a.0 (actions.ok a.1.1.0) x)
unfolding kind_of body_of
ok κs a x t p = method a.1.0 a.0 (actions.ok a.1.1.0) x p.0 p.1

pub subtree_ok_sent_lem : Meets _ subtree_ok_sent_kinds.ps subtree_ok_sent_kinds.r subtree_ok_sent_reads.Post (λ κs a x t. MethodOutcome a.1.0 a.0 (actions.subtree_ok_sent a.1.1.0) x)
unfolding kind_of body_of
subtree_ok_sent_lem κs a x t p = method a.1.0 a.0 (actions.subtree_ok_sent a.1.1.0) x p.0 p.1

pub subtree_ok_delivered_lem : Meets _ subtree_ok_delivered_kinds.ps subtree_ok_delivered_kinds.r subtree_ok_delivered_reads.Post (λ κs a x t. MethodOutcome a.1.0 a.0 (actions.subtree_ok_delivered a.1.1.0) x)
unfolding kind_of body_of
subtree_ok_delivered_lem κs a x t p = method a.1.0 a.0 (actions.subtree_ok_delivered a.1.1.0) x p.0 p.1

pub cluster_ok_lem : Meets _ cluster_ok_kinds.ps cluster_ok_kinds.r cluster_ok_reads.Post (λ κs a x t. MethodOutcome a.1.0 a.0 (actions.cluster_ok a.1.1.0) x)
unfolding kind_of body_of
cluster_ok_lem κs a x t p = method a.1.0 a.0 (actions.cluster_ok a.1.1.0) x p.0 p.1

pub down_sent_lem : Meets _ down_sent_kinds.ps down_sent_kinds.r down_sent_reads.Post (λ κs a x t. MethodOutcome a.1.0 a.0 (actions.down_sent a.1.1.0) x)
unfolding kind_of body_of
down_sent_lem κs a x t p = method a.1.0 a.0 (actions.down_sent a.1.1.0) x p.0 p.1

pub down_delivered_lem : Meets _ down_delivered_kinds.ps down_delivered_kinds.r down_delivered_reads.Post (λ κs a x t. MethodOutcome a.1.0 a.0 (actions.down_delivered a.1.1.0) x)
unfolding kind_of body_of
down_delivered_lem κs a x t p = method a.1.0 a.0 (actions.down_delivered a.1.1.0) x p.0 p.1

pub preferred_sent_lem : Meets _ preferred_sent_kinds.ps preferred_sent_kinds.r preferred_sent_reads.Post (λ κs a x t. MethodOutcome a.1.0 a.0 (actions.preferred_sent a.1.1.0 a.1.1.1.0) x)
unfolding kind_of body_of
preferred_sent_lem κs a x t p = method a.1.0 a.0 (actions.preferred_sent a.1.1.0 a.1.1.1.0) x p.0 p.1

pub preferred_delivered_lem : Meets _ preferred_delivered_kinds.ps preferred_delivered_kinds.r preferred_delivered_reads.Post (λ κs a x t. MethodOutcome a.1.0 a.0 (actions.preferred_delivered a.1.1.0 a.1.1.1.0) x)
unfolding kind_of body_of
preferred_delivered_lem κs a x t p = method a.1.0 a.0 (actions.preferred_delivered a.1.1.0 a.1.1.1.0) x p.0 p.1

pub up_sent_lem : Meets _ up_sent_kinds.ps up_sent_kinds.r up_sent_reads.Post (λ κs a x t. MethodOutcome a.1.0 a.0 (actions.up_sent a.1.1.0) x)
unfolding kind_of body_of
up_sent_lem κs a x t p = method a.1.0 a.0 (actions.up_sent a.1.1.0) x p.0 p.1

pub up_delivered_lem : Meets _ up_delivered_kinds.ps up_delivered_kinds.r up_delivered_reads.Post (λ κs a x t. MethodOutcome a.1.0 a.0 (actions.up_delivered a.1.1.0) x)
unfolding kind_of body_of
up_delivered_lem κs a x t p = method a.1.0 a.0 (actions.up_delivered a.1.1.0) x p.0 p.1

pub cluster_go_lem : Meets _ cluster_go_kinds.ps cluster_go_kinds.r cluster_go_reads.Post (λ κs a x t. MethodOutcome a.1.0 a.0 (actions.cluster_go a.1.1.0) x)
unfolding kind_of body_of
cluster_go_lem κs a x t p = method a.1.0 a.0 (actions.cluster_go a.1.1.0) x p.0 p.1

pub subtree_go_sent_lem : Meets _ subtree_go_sent_kinds.ps subtree_go_sent_kinds.r subtree_go_sent_reads.Post (λ κs a x t. MethodOutcome a.1.0 a.0 (actions.subtree_go_sent a.1.1.0) x)
unfolding kind_of body_of
subtree_go_sent_lem κs a x t p = method a.1.0 a.0 (actions.subtree_go_sent a.1.1.0) x p.0 p.1

pub subtree_go_delivered_lem : Meets _ subtree_go_delivered_kinds.ps subtree_go_delivered_kinds.r subtree_go_delivered_reads.Post (λ κs a x t. MethodOutcome a.1.0 a.0 (actions.subtree_go_delivered a.1.1.0) x)
unfolding kind_of body_of
subtree_go_delivered_lem κs a x t p = method a.1.0 a.0 (actions.subtree_go_delivered a.1.1.0) x p.0 p.1

pub go : Meets _ go_kinds.ps go_kinds.r go_reads.Post (λ κs a x t. MethodOutcome a.1.0 a.0 (actions.go a.1.1.0) x)
unfolding kind_of body_of
go κs a x t p = method a.1.0 a.0 (actions.go a.1.1.0) x p.0 p.1

pub input : Meets _ input_kinds.ps input_kinds.r input_reads.Post (λ κs a x t. MethodOutcome a.1.0 a.0 (actions.input a.1.1.0) x)
unfolding kind_of body_of
input κs a x t p = method a.1.0 a.0 (actions.input a.1.1.0) x p.0 p.1

-- ---- one action from bytes, and a list of them

pub act : Meets _ act_kinds.ps act_kinds.r act_reads.Post (λ κs a x t. ActOutcome a.1.0 a.0 a.1.1.0.now x)
act κs a x t p = subst (ActOutcome a.1.0 a.0 a.1.1.0.now) (sym p.0) (act_outcome a.1.0 a.0 p.1 a.1.1.0.now)

pub run : Meets _ run_kinds.ps run_kinds.r run_reads.Post (λ κs a x t. ListOutcome a.1.0 a.0 a.1.1.0.now x)
run κs a x t p = subst (ListOutcome a.1.0 a.0 a.1.1.0.now) (sym p.0) (list_outcome a.1.0 a.0 p.1 a.1.1.0.now)

-- ---- a whole trial

pub trial : Meets _ trial_kinds.ps trial_kinds.r trial_reads.Post (λ κs a x t. TrialPromise a.0.now a.1.0.now x t.1.0.now)
trial κs a x t p = trial_promise a.0.now a.1.0.now p.small p.at_most_2048 x t.1.0.now p.count p.held

pub teravulk_trial : Meets _ teravulk_trial_kinds.ps teravulk_trial_kinds.r teravulk_trial_reads.Post (λ κs a x t. TrialPromise a.0.now a.1.0.now x t.1.0.now)
teravulk_trial κs a x t p = trial_promise a.0.now a.1.0.now p.1.1.1 p.1.1.0 x t.1.0.now p.0 p.1.0
