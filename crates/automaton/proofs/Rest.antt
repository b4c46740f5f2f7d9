-- A plant at rest stays at rest: where all start values are equal, the mean leaves them as they are, in every round.
-- Assumes nothing.
use Prim.Native.Nat.{ℕ, zero, suc, ◌<◌}
use mathlib.Core.Path.{◌≡◌, ◌∙◌, ap, ap₂}
use mathlib.Core.List.{map}
use Rattle.laws.specs.Mean.{rule_of}
use Rattle.laws.proofs.Mean.{rule_of_equals}
use Rattle.automaton.specs.Network.{Net, neighbours}
use Rattle.automaton.specs.Lockstep.{lockstep}
use Rattle.automaton.proofs.Lists.{map_same, picked_all}

module _ (net : Net ℕ) (by-mean : net.rule ≡ rule_of) (v : ℕ) (at-start : (p : ℕ) → p < net.n → net.start p ≡ v) where
  pub at_rest : (k p : ℕ) → p < net.n → lockstep net k p ≡ v
  unfolding lockstep neighbours
  at_rest zero p h = at-start p h
  at_rest (suc k) p h =
      ap (λ f. f (lockstep net k p) (map (lockstep net k) (neighbours net p))) by-mean
      ∙ ap₂ rule_of (at_rest k p h) (map_same (lockstep net k) (λ _. v) (neighbours net p) (picked_all (λ q. lockstep net k q ≡ v) (net.link p) net.n (λ q l _. at_rest k q l)))
      ∙ rule_of_equals v (neighbours net p)
