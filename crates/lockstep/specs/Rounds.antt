-- The lockstep run: all nodes at once, one round after the other, by any rule for a node's new value.
-- Assumes nothing.
use Rattle.std.specs.Prelude.{ℕ, zero, suc, List, get_or}
use Rattle.laws.specs.Below.{over_below}
use Rattle.laws.specs.Mean.{rule_of}
use Rattle.network.specs.declared.Network.{Network}
use Rattle.nodeset.specs.Marks.{values_in}

-- node p's new value by the rule, where xs has the values of all nodes and sets their neighbour sets
unfoldable pub next_by : (ℕ → List ℕ → ℕ) → List ℕ → List ℕ → ℕ → ℕ
next_by rule sets xs p = rule (get_or xs p 0) (values_in (λ q. get_or xs q 0) (get_or sets p 0))

module _ (rule : ℕ → List ℕ → ℕ) (sets : List ℕ) (nodes : ℕ) where
  -- "does this for all nodes at once": every new value comes from the values before the round
  unfoldable pub round_by : List ℕ → List ℕ
  round_by xs = over_below (next_by rule sets xs) nodes xs

  -- "k times"
  unfoldable pub rounds_by : ℕ → List ℕ → List ℕ
  rounds_by zero xs = xs
  rounds_by (suc k) xs = round_by (rounds_by k xs)

-- "The lockstep table of k rounds does this for all nodes at once, k times, from the start values"
unfoldable pub lockstep_of : Network → ℕ → List ℕ
lockstep_of net k = rounds_by rule_of net.neighbours net.nodes k net.starts
