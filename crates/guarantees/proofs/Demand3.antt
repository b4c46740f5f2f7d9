-- Demand 3 about the code. From the start state of an accepted plan's network, after anything handed in one after another, taken or refused, as single
-- actions, as lists and as calls of the twenty methods, mixed in any order: a node with k inputs holds the table's entry for k rounds; the
-- outputs of two nodes in one cluster, or in two clusters joined by a link, differ by at most one; and 18 is never answered.
-- Assumes nothing.
use Prim.Native.Nat.{ℕ, suc, ◌<◌, ◌≤◌}
use mathlib.Core.Path.{◌≡◌, sym, ◌∙◌, ap, subst}
use mathlib.Core.Bool.{true}
use mathlib.Core.List.{List}
use lib.ListN.{length, get_or}
use Rattle.network.specs.declared.Network.{Network}
use Rattle.network.specs.Valid.{valid_network}
use Rattle.lockstep.specs.Rounds.{lockstep_of}
use Rattle.synchronizer.specs.declared.State.{State}
use Rattle.synchronizer.specs.Start.{start_of}
use Rattle.automaton.specs.Clusters.{Near}
use Rattle.automaton.specs.Accepted.{Accepted}
use Rattle.automaton.specs.Actions.{output, input}
use Rattle.automaton.specs.Global.{begin}
use Rattle.automaton.specs.Run.{run}
use Rattle.automaton.proofs.Demand as Automaton
use Rattle.guarantees.specs.Reading.{net_of, read}
use Rattle.guarantees.specs.Steps.{Step, state_after_all, answer_to, started, finished}
use Rattle.guarantees.proofs.Start.{lockstep_is}
use Rattle.guarantees.proofs.Reached.{Reached, all_reached, started_read, finished_read, not_18}

module _ (net : Network) (v : valid_network net ≡ true) (long : length net.starts ≡ 64) (acc : Accepted (net_of net)) (steps : List Step) where
  -- the state after all that was handed in
  abbrev pub reached : State
  reached = state_after_all net (start_of net).state steps

  there : Reached net reached
  there = all_reached net v long steps

  pub setpoint : (p k : ℕ) → p < net.nodes → finished reached p ≡ k → get_or reached.values p 0 ≡ get_or (lockstep_of net k) p 0
  unfolding read
  setpoint p k h e =
      ap (λ g. g.value p) there.is
      ∙ Automaton.setpoint (net_of net) acc there.actions p k (sym (ap (λ g. g.count (input p)) there.is) ∙ sym (finished_read net v reached p h) ∙ e)
      ∙ sym (lockstep_is net v long k p h)

  pub rounds_near :
      (p q : ℕ) → p < net.nodes → q < net.nodes → Near (net_of net) p q
      → (started reached p ≤ suc (started reached q)) × (started reached q ≤ suc (started reached p))
  unfolding net_of
  rounds_near p q hp hq near =
      subst (λ (x : ℕ × ℕ). (x.0 ≤ suc x.1) × (x.1 ≤ suc x.0)) (λ i. (outputs p hp i, outputs q hq i))
      (Automaton.rounds_near (net_of net) acc there.actions p q hp hq near)
    where
      outputs : (x : ℕ) → x < net.nodes → (run (net_of net) (begin (net_of net)) there.actions).count (output x) ≡ started reached x
      outputs x h = sym (started_read net v reached x h ∙ ap (λ g. g.count (output x)) there.is)

  pub never_18 : (x : Step) → answer_to net reached x ≡ 18 → ⊥
  never_18 = not_18 net acc reached there
