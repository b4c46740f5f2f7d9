-- Demand 3 from bytes to values. For every byte string that the plan reader accepts, its start state, and everything handed in one after another
-- (single actions, lists, calls of the twenty methods, taken or refused, mixed in any order): a controller that has finished k rounds holds the
-- table's entry for k rounds; two controllers in one cluster, or in two clusters joined by a link, have started numbers of rounds that differ
-- by at most one; and 18 is never answered. Every word here is a definition that a public contract cites.
-- Assumes nothing.
use Prim.Native.Nat.{ℕ, suc, ◌<◌, ◌≤◌}
use native.Mathlib.Omega.{arith}
use mathlib.Core.Path.{◌≡◌, sym, ◌∙◌, ap, subst}
use mathlib.Core.Bool.{true}
use mathlib.Core.List.{List, map}
use lib.ListN.{length, get_or, length-map}
use Rattle.laws.specs.Lists.{Bytes}
use Rattle.laws.proofs.Choice.{if_b_yes, if_lt_no}
use Rattle.network.specs.declared.Network.{Network}
use Rattle.network.specs.Sets.{with_sets}
use Rattle.network.specs.Valid.{valid_network}
use Rattle.records.specs.Plan.{network_of}
use Rattle.records.specs.Reader.{accepted_with}
use Rattle.records.proofs.Lists.{length_padded}
use Rattle.plan.specs.Accepted.{Accepted}
use Rattle.plan.specs.Checks.{plan_of}
use Rattle.plan.proofs.Answers.{answer_accepted_plan}
use Rattle.plan.proofs.Valid.{accepted_is_valid}
use Rattle.lockstep.specs.Table.{table_number, table_of}
use Rattle.lockstep.proofs.Tables.{table_at}
use Rattle.synchronizer.specs.declared.State.{State}
use Rattle.synchronizer.specs.Start.{start_of}
use Rattle.automaton.specs.Actions.{input}
use Rattle.automaton.specs.Clusters.{Near}
use Rattle.guarantees.specs.Reading.{net_of, read}
use Rattle.guarantees.specs.Steps.{Step, state_after_all, answer_to, started, finished}
use Rattle.guarantees.proofs.Plans.{plan_accepted}
use Rattle.guarantees.proofs.Demand3 as start
use Rattle.guarantees.proofs.Fits.{valid_fits}
use Rattle.guarantees.proofs.Reached.{all_reached, finished_read}

-- an accepted plan's network has its 64 start values
pub starts_64 : {s : List ℕ} {n : ℕ} (net : Network) → Accepted s n net → length net.starts ≡ 64
unfolding with_sets network_of
starts_64 net A =
    ap (λ (x : Network). length x.starts) A.network
    ∙ length_padded 64 (map (λ x. x.start) A.plan.nodes) (omega (arith, length-map A.plan.nodes (λ x. x.start), A.keeps_records.at_most_64_nodes))

module _ (s : List ℕ) (small : Bytes s) (n : ℕ) (net : Network) (read_as : plan_of s ≡ accepted_with n net) (steps : List Step) where
  A : Accepted s n net
  A = answer_accepted_plan s small n net read_as

  v : valid_network net ≡ true
  v = accepted_is_valid A

  -- the state after all that was handed in
  abbrev pub reached : State
  reached = state_after_all net (start_of net).state steps

  -- no controller finishes more rounds than the plan has
  pub in_rounds_lem : (p : ℕ) → p < net.nodes → finished reached p ≤ net.rounds
  unfolding read
  in_rounds_lem p h =
      omega (arith, finished_read net v reached p h, (valid_fits net v reached (all_reached net v (starts_64 net A) steps).valid).counts (input p))

  -- so its table is not refused by 20
  tabled : (p : ℕ) (out : List ℕ) → p < net.nodes → net.nodes ≤ length out → table_number net (finished reached p) (length out) ≡ 0
  unfolding table_number
  tabled p out h room =
      if_b_yes (valid_network net) _ _ v ∙ if_lt_no net.rounds (finished reached p) _ _ (in_rounds_lem p h) ∙ if_lt_no (length out) net.nodes _ _ room

  -- a controller that has finished k rounds holds the setpoint of a lockstep run of k rounds: the table's entry in every buffer with room for it
  pub setpoint : (p k : ℕ) (out : List ℕ) → p < net.nodes → net.nodes ≤ length out → finished reached p ≡ k → get_or reached.values p 0 ≡ get_or (table_of net k out) p 0
  setpoint p k out h room e =
      start.setpoint net v (starts_64 net A) (plan_accepted net A) steps p k h e
      ∙ sym (table_at net k out (subst (λ (r : ℕ). table_number net r (length out) ≡ 0) e (tabled p out h room)) p h)

  -- two controllers in one cluster, or in two clusters joined by a link
  pub rounds_near :
      (p q : ℕ) → p < net.nodes → q < net.nodes → Near (net_of net) p q
      → (started reached p ≤ suc (started reached q)) × (started reached q ≤ suc (started reached p))
  rounds_near = start.rounds_near net v (starts_64 net A) (plan_accepted net A) steps

  -- "Refusal 18 never occurs from there"
  pub never_18 : (x : Step) → answer_to net reached x ≡ 18 → ⊥
  never_18 = start.never_18 net v (starts_64 net A) (plan_accepted net A) steps
