-- Document 02, W3, about the code: a plant at rest stays at rest. Where all controllers of an accepted plan start at one value, every entry of every
-- lockstep table is that value, and so is every controller's setpoint, whatever is handed in. (What the mean is rounded to is `mean_exactly` of
-- `lockstep`.)
-- Assumes nothing.
use Prim.Native.Nat.{ℕ, ◌<◌}
use mathlib.Core.Path.{◌≡◌, refl, ◌∙◌}
use mathlib.Core.Bool.{true}
use mathlib.Core.List.{List}
use lib.ListN.{length, get_or}
use Rattle.network.specs.declared.Network.{Network}
use Rattle.network.specs.Valid.{valid_network}
use Rattle.lockstep.specs.Rounds.{lockstep_of}
use Rattle.synchronizer.specs.Start.{start_of}
use Rattle.automaton.specs.Accepted.{Accepted}
use Rattle.automaton.proofs.Rest.{at_rest}
use Rattle.guarantees.specs.Reading.{net_of}
use Rattle.guarantees.specs.Steps.{Step, state_after_all, finished}
use Rattle.guarantees.proofs.Start.{lockstep_is}
use Rattle.guarantees.proofs.Demand3.{setpoint}

module _ (net : Network) (v : valid_network net ≡ true) (long : length net.starts ≡ 64) (w : ℕ) (level : (p : ℕ) → p < net.nodes → get_or net.starts p 0 ≡ w) where
  pub table_at_rest : (k p : ℕ) → p < net.nodes → get_or (lockstep_of net k) p 0 ≡ w
  unfolding net_of
  table_at_rest k p h = lockstep_is net v long k p h ∙ at_rest (net_of net) refl w level k p h

  pub run_at_rest : Accepted (net_of net) → (steps : List Step) (p : ℕ) → p < net.nodes → get_or (state_after_all net (start_of net).state steps).values p 0 ≡ w
  run_at_rest acc steps p h =
      setpoint net v long acc steps p (finished (state_after_all net (start_of net).state steps) p) h refl
      ∙ table_at_rest (finished (state_after_all net (start_of net).state steps) p) p h
