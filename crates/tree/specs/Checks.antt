-- The whole-plan checks 6 and 7: each a test of one node with the lowest node that fails it, and the rule that it tests as a proposition.
-- Assumes nothing.
use Rattle.std.specs.Prelude.{ℕ, ◌<◌, ◌≡◌, Bool, true, false, not, List}
use Rattle.laws.specs.Choice.{if_lt, if_eq}
use Rattle.laws.specs.Below.{first_of}
use Rattle.network.specs.declared.Network.{Network}
use Rattle.links.specs.Links.{nodes_of, links_of, has_link, Linked}
use Rattle.tree.specs.Climb.{parent_in, root_from, lost, Leads}

-- ---- 6: "parent not below node count, or no link to it"

-- the node p, whose parent is q, is no root and q is no node or not linked to p
unfoldable pub untied : List ℕ → List ℕ → ℕ → ℕ → ℕ → ℕ → Bool
untied lowers uppers links nodes p q = if_eq q p false (if_lt q nodes (not (has_link lowers uppers links p q)) true)

-- "lowest such node", and the node count where there is none
unfoldable pub first_untied : Network → ℕ
first_untied net =
    first_of (λ p. untied net.lowers net.uppers (links_of net) (nodes_of net) p (parent_in net.parents p)) (nodes_of net)

-- "Each node that is no root has a link to its parent"
unfoldable pub Tied : Network → ℕ → Type 0
Tied net p =
    (parent_in net.parents p ≡ p → ⊥)
    → (parent_in net.parents p < nodes_of net) × Linked net.lowers net.uppers (links_of net) p (parent_in net.parents p)

-- ---- 7: "parents never reach a root"

-- "lowest such node", and the node count where there is none
unfoldable pub first_lost : Network → ℕ
first_lost net =
    first_of (λ p. lost (root_from (parent_in net.parents) (nodes_of net) (nodes_of net) p)) (nodes_of net)

-- "Following parents from a node must end at a root"
pub record EndsAtRoot (net : Network) (p : ℕ) : Type 0 where
  pub root : ℕ
  pub leads : Leads (parent_in net.parents) (nodes_of net) p root
