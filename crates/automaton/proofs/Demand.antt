-- Demand 3. From an accepted network's start state, after any list of actions (a refused one changes nothing, and the next goes on from the
-- unchanged state): a node that finished k rounds holds the value of k lockstep rounds, and two nodes in one cluster, or in two clusters
-- joined by a link, have started the same round or are one apart. For every type of values, every rule, every list, node and k.
-- Assumes nothing.
use Prim.Native.Nat.{ℕ, suc, ◌≤◌, ◌<◌}
use mathlib.Core.Path.{◌≡◌, ◌∙◌, ap, sym}
use mathlib.Core.List.{List}
use Rattle.automaton.specs.Actions.{Act, output, input}
use Rattle.automaton.specs.Network.{Net}
use Rattle.automaton.specs.Clusters.{Near, together, joined}
use Rattle.automaton.specs.Accepted.{Accepted}
use Rattle.automaton.specs.Global.{Global, begin}
use Rattle.automaton.specs.Answer.{answer}
use Rattle.automaton.specs.Run.{run}
use Rattle.automaton.specs.Lockstep.{lockstep}
use Rattle.automaton.proofs.Chains.{outputs_near}
use Rattle.automaton.proofs.Room.{never_full}
use Rattle.automaton.proofs.Runs.{kept_by_run}
use Rattle.automaton.proofs.Values.{Held, held_begins, held_kept}

module _ {Value : Type 0} (net : Net Value) (acc : Accepted net) (l : List Act) where
  -- the state after the list
  abbrev pub reached : Global Value
  reached = run net (begin net) l

  -- the invariant from which all of this follows
  pub held : Held net reached
  held = kept_by_run net (Held net) (λ s a h t. held_kept net acc s h a t) l (begin net) (held_begins net)

  -- "Rounds finished are inputs"
  pub setpoint : (p k : ℕ) → reached.count (input p) ≡ k → reached.value p ≡ lockstep net k p
  setpoint p k e = held.values p ∙ ap (λ j. lockstep net j p) e

  -- "Rounds started are outputs"
  pub rounds_near :
      (p q : ℕ) → p < net.n → q < net.n → Near net p q
      → (reached.count (output p) ≤ suc (reached.count (output q))) × (reached.count (output q) ≤ suc (reached.count (output p)))
  rounds_near p q hp hq near = (
    outputs_near net acc reached.count held.order p q hp hq near,
    outputs_near net acc reached.count held.order q p hq hp (back near),
  )
    where
      back : Near net p q → Near net q p
      back (together e) = together (sym e)
      back (joined x y e ex ey) = joined y x (acc.both_ways x y e) ey ex

  -- a send always finds room: 18 is no answer to any action
  pub no_full_queue : (a : Act) → answer net reached a ≡ 18 → ⊥
  no_full_queue = never_full net acc reached held
