-- The whole-plan check 10: the nodes that are joined to node 0 through links, as a set that grows link by link and as a path, and the lowest
-- node that is not among them. It assumes nothing of the checks before it.
-- Assumes nothing.
use Rattle.std.specs.Prelude.{ℕ, ◌<◌, ◌≡◌, not, List, get_or}
use Rattle.laws.specs.Choice.{if_b, if_lt}
use Rattle.laws.specs.Below.{fold_below, first_of}
use Rattle.nodeset.specs.Marks.{member, inserted}
use Rattle.network.specs.declared.Network.{Network}
use Rattle.links.specs.Links.{nodes_of, links_of, Linked}

-- q is marked where p is, if q is a node
unfoldable pub follow : ℕ → ℕ → ℕ → ℕ → ℕ
follow nodes p q s = if_b (member s p) (if_lt q nodes (inserted s q) s) s

-- the marks s after one link: each end is marked where the other is
unfoldable pub across : ℕ → ℕ → ℕ → ℕ → ℕ
across nodes a b s = follow nodes b a (follow nodes a b s)

-- the marks s after each of the links once, in order
unfoldable pub pass : List ℕ → List ℕ → ℕ → ℕ → ℕ → ℕ
pass lowers uppers links nodes s = fold_below (λ l. across nodes (get_or lowers l 0) (get_or uppers l 0)) s links

-- the nodes that are joined to node 0: node 0 alone, after as many passes as there are nodes
unfoldable pub joined_marks : List ℕ → List ℕ → ℕ → ℕ → ℕ
joined_marks lowers uppers links nodes = fold_below (λ _. pass lowers uppers links nodes) (inserted 0 0) nodes

-- 10: "not joined to node 0": "lowest such node", and the node count where there is none
unfoldable pub first_unjoined : Network → ℕ
first_unjoined net =
    first_of (λ p. not (member (joined_marks net.lowers net.uppers (links_of net) (nodes_of net)) p)) (nodes_of net)

-- ---- the same as a proposition

-- a path through links, from node to node, leads from node 0 to q
pub data Joined (lowers uppers : List ℕ) (links nodes : ℕ) : ℕ → Type 0 where
  start : {q : ℕ} → 0 ≡ q → Joined lowers uppers links nodes q
  along : {p q : ℕ} → Joined lowers uppers links nodes p → Linked lowers uppers links p q → q < nodes → Joined lowers uppers links nodes q

-- "All nodes are joined through links": node p is
abbrev pub JoinedIn : Network → ℕ → Type 0
JoinedIn net = Joined net.lowers net.uppers (links_of net) (nodes_of net)
