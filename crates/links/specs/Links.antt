-- The list of links: the two nodes that a link joins, and whether some link joins two nodes.
-- Assumes nothing.
use Rattle.std.specs.Prelude.{ℕ, min, ◌<◌, ◌≡◌, Bool, true, false, List, get_or, ltb, eqb}
use Rattle.laws.specs.Choice.{if_b, if_eq}
use Rattle.laws.specs.Below.{first_of}
use Rattle.network.specs.declared.Network.{Network}
use Rattle.network.specs.Sets.{Ends}

-- how many nodes and links a network has. It holds at most 64 and 128; what it claims beyond that is not there to be read
abbrev pub nodes_of : Network → ℕ
nodes_of net = min net.nodes 64

abbrev pub links_of : Network → ℕ
links_of net = min net.links 128

-- a and b are p and q, in this order
unfoldable pub pair_is : ℕ → ℕ → ℕ → ℕ → Bool
pair_is a b p q = if_eq a p (eqb b q) false

-- a and b are p and q, in whichever order
unfoldable pub joins : ℕ → ℕ → ℕ → ℕ → Bool
joins a b p q = if_b (pair_is a b p q) true (pair_is a b q p)

-- the first of n links that joins p and q, and n where none does
unfoldable pub link_between : List ℕ → List ℕ → ℕ → ℕ → ℕ → ℕ
link_between lowers uppers n p q = first_of (λ l. joins (get_or lowers l 0) (get_or uppers l 0) p q) n

-- some link of the n joins p and q
unfoldable pub has_link : List ℕ → List ℕ → ℕ → ℕ → ℕ → Bool
has_link lowers uppers n p q = ltb (link_between lowers uppers n p q) n

-- ---- the same as propositions

-- a and b are p and q, in whichever order
pub data SamePair (a b p q : ℕ) : Type 0 where
  straight : a ≡ p → b ≡ q → SamePair a b p q
  crossed : a ≡ q → b ≡ p → SamePair a b p q

-- some link of the n joins p and q
pub record Linked (lowers uppers : List ℕ) (n p q : ℕ) : Type 0 where
  pub link : ℕ
  pub below : link < n
  pub ends : Ends lowers uppers link p q
