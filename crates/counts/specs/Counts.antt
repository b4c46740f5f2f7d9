-- What the counts of a state say of a whole set of nodes.
-- Assumes nothing.
use Rattle.std.specs.Prelude.{ℕ, Bool, List, ltb}
use Rattle.nodeset.specs.Marks.{all_in}
use Rattle.actions.specs.declared.Kind.{Kind}
use Rattle.actions.specs.Kinds.{count, count_in}

-- every child in the set has the count above n
unfoldable pub children_have : List ℕ → Kind → ℕ → ℕ → Bool
children_have counts k n set = all_in (λ c. ltb n (count_in counts (count k c))) set
