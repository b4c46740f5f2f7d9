-- A node's new value from what it heard, by node number. How the values make one is `laws/specs/Mean`.
-- Assumes nothing.
use Rattle.std.specs.Prelude.{ℕ, List, get_or}
use Rattle.laws.specs.Mean.{rule_of}
use Rattle.nodeset.specs.Marks.{values_in}

-- the rule for a node whose neighbours are the set of marks m, where heard has what it heard, by node number
unfoldable pub mean_of : ℕ → ℕ → List ℕ → ℕ
mean_of m own heard = rule_of own (values_in (λ q. get_or heard q 0) m)
