-- Following parents. `up` gives each node its parent; a root is its own parent, so a walk stays there. n is the node count.
-- Assumes nothing.
use Rattle.std.specs.Prelude.{ℕ, zero, suc, ◌<◌, ◌≡◌, Bool, true, false, Option, Some, None, List, get_or}
use Rattle.laws.specs.Choice.{if_lt, if_eq}

-- a node's parent, by the list of parents
abbrev pub parent_in : List ℕ → ℕ → ℕ
parent_in parents p = get_or parents p 0

-- k steps along the parents
unfoldable pub climb : (ℕ → ℕ) → ℕ → ℕ → ℕ
climb up zero p = p
climb up (suc k) p = climb up k (up p)

-- where the parents of p lead: the walk of as many steps as there are nodes
unfoldable pub root_of : (ℕ → ℕ) → ℕ → ℕ → ℕ
root_of up n p = climb up n p

-- "recursion up the parents with steps left falling from the node count, answering the root or none". The test for the root stands before
-- the test for no steps left; a number that is no node leads nowhere
unfoldable pub root_from : (ℕ → ℕ) → ℕ → ℕ → ℕ → Option ℕ
root_from up n zero p = if_lt p n (if_eq (up p) p (Some p) None) None
root_from up n (suc left) p = if_lt p n (if_eq (up p) p (Some p) (root_from up n left (up p))) None

-- depth below the root: how many steps there are from p to its root
unfoldable pub depth_from : (ℕ → ℕ) → ℕ → ℕ → ℕ
depth_from up zero p = 0
depth_from up (suc left) p = if_eq (up p) p 0 (suc (depth_from up left (up p)))

unfoldable pub depth_of : (ℕ → ℕ) → ℕ → ℕ → ℕ
depth_of up n p = depth_from up n p

-- what a walk comes to, in document 01's numbers: the root's number, or 64, which is no node's; and whether 7 applies
abbrev pub root_number : Option ℕ → ℕ
root_number (Some r) = r
root_number None = 64

abbrev pub lost : Option ℕ → Bool
lost (Some r) = false
lost None = true

-- ---- the same as propositions

-- "A node that names itself as parent is a root"
pub record IsRoot (up : ℕ → ℕ) (n r : ℕ) : Type 0 where
  pub node : r < n
  pub own_parent : up r ≡ r

-- k steps along the parents, from node to node, lead from p to the root r
unfoldable pub LeadsIn : (ℕ → ℕ) → ℕ → ℕ → ℕ → ℕ → Type 0
LeadsIn up n zero p r = (p ≡ r) × IsRoot up n r
LeadsIn up n (suc k) p r = (p < n) × LeadsIn up n k (up p) r

-- "its cluster is all nodes whose parents lead to it"
pub record Leads (up : ℕ → ℕ) (n p r : ℕ) : Type 0 where
  pub steps : ℕ
  pub way : LeadsIn up n steps p r
