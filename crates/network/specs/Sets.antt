-- How a node's neighbour, child and preferred set come from the lists of links and parents.
-- Assumes nothing.
use Rattle.std.specs.Prelude.{ℕ, min, ◌≡◌, List, get_or, set}
use Rattle.laws.specs.Choice.{if_lt, if_eq}
use Rattle.laws.specs.Below.{fold_below, list_below}
use Rattle.nodeset.specs.Marks.{inserted}
use Rattle.network.specs.declared.Network.{Network}

-- p's set s with q as one more member, where p is x
unfoldable pub towards : ℕ → ℕ → ℕ → ℕ → ℕ
towards x q p s = if_eq x p (inserted s q) s

-- what one link gives to p's set: the other end, where p is an end
unfoldable pub link_gives : ℕ → ℕ → ℕ → ℕ → ℕ
link_gives a b p s = towards b a p (towards a b p s)

-- the link at place l has the ends p and q, one way round or the other
pub data Ends (lowers uppers : List ℕ) (l p q : ℕ) : Type 0 where
  rising : get_or lowers l 0 ≡ p → get_or uppers l 0 ≡ q → Ends lowers uppers l p q
  falling : get_or lowers l 0 ≡ q → get_or uppers l 0 ≡ p → Ends lowers uppers l p q

-- p's set over the first n links whose flag is at least the one asked for: 0 asks for all links, 1 for the preferred ones
unfoldable pub link_set : List ℕ → List ℕ → List ℕ → ℕ → ℕ → ℕ → ℕ
link_set lowers uppers flags least n p =
    fold_below (λ l s. if_lt (get_or flags l 0) least s (link_gives (get_or lowers l 0) (get_or uppers l 0) p s)) 0 n

-- p's set over the first n nodes: "A node's children are the other nodes that name it as parent"
unfoldable pub child_set : List ℕ → ℕ → ℕ → ℕ
child_set parents n p = fold_below (λ q s. if_eq (get_or parents q 0) q s (towards (get_or parents q 0) q p s)) 0 n

-- the sets of a network's own lists. A network may hold at most 128 links and 64 nodes; what it claims beyond that is not there to be read
abbrev pub neighbours_of : Network → ℕ → ℕ
neighbours_of net = link_set net.lowers net.uppers net.flags 0 (min net.links 128)

abbrev pub preferred_of : Network → ℕ → ℕ
preferred_of net = link_set net.lowers net.uppers net.flags 1 (min net.links 128)

abbrev pub children_of : Network → ℕ → ℕ
children_of net = child_set net.parents (min net.nodes 64)

-- the network with its derived sets filled from its lists
unfoldable pub with_sets : Network → Network
with_sets net =
    record {
      nodes = net.nodes;
      links = net.links;
      rounds = net.rounds;
      parents = net.parents;
      starts = net.starts;
      lowers = net.lowers;
      uppers = net.uppers;
      flags = net.flags;
      neighbours = list_below (neighbours_of net) 64;
      children = list_below (children_of net) 64;
      preferred = list_below (preferred_of net) 64;
    }

-- ---- one step of filling, over the whole table of sets

-- the table with q as one more member of p's set
unfoldable pub added : List ℕ → ℕ → ℕ → List ℕ
added sets p q = if_lt p 64 (set sets p (inserted (get_or sets p 0) q)) sets

-- the table with one link's ends, where its flag is at least the one asked for
unfoldable pub linked : List ℕ → ℕ → ℕ → ℕ → ℕ → List ℕ
linked sets a b flag least = if_lt flag least sets (added (added sets a b) b a)

-- the table with q as one more child of p, unless it is p itself
unfoldable pub adopted : List ℕ → ℕ → ℕ → List ℕ
adopted sets p q = if_eq p q sets (added sets p q)
