-- The lockstep run: all nodes at once, one round after the other.
-- Assumes nothing.
use Rattle.std.specs.Prelude.{ℕ, zero, suc, map}
use Rattle.automaton.specs.Network.{Net, neighbours}

-- "The lockstep table of k rounds does this for all nodes at once, k times, from the start values"
unfoldable pub lockstep : {Value : Type 0} → Net Value → ℕ → ℕ → Value
lockstep net zero p = net.start p
lockstep net (suc k) p = net.rule (lockstep net k p) (map (lockstep net k) (neighbours net p))
