-- What an action looks up in the network: the tables that it reads, and what it finds there around its nodes.
-- Assumes nothing.
use Rattle.std.specs.Prelude.{ℕ, ◌+◌, ◌*◌, ◌<◌, Bool, List, eqb, get_or, set, replicate}
use Rattle.laws.specs.Below.{fold_below}
use Rattle.network.specs.declared.Network.{Network}
use Rattle.actions.specs.declared.Around.{Around}

-- the tables: of a node its parent and its sets, of two nodes the direction from the first to the second
pub record Wires : Type 0 where
  pub nodes : ℕ
  pub rounds : ℕ
  pub parents : List ℕ
  pub lanes : List ℕ
  pub neighbours : List ℕ
  pub children : List ℕ
  pub preferred : List ℕ

abbrev pub wires : ℕ → ℕ → List ℕ → List ℕ → List ℕ → List ℕ → List ℕ → Wires
wires nodes rounds parents lanes neighbours children preferred =
    record {
      nodes = nodes;
      rounds = rounds;
      parents = parents;
      lanes = lanes;
      neighbours = neighbours;
      children = children;
      preferred = preferred;
    }

-- the table of directions with link l from a to b: "every direction of every link" has a number, 2 l from a to b and 2 l + 1 back
unfoldable pub joined : List ℕ → ℕ → ℕ → ℕ → List ℕ
joined lanes a b l = set (set lanes (a * 64 + b) (l * 2)) (b * 64 + a) (l * 2 + 1)

-- the directions of the first n links: from p to q at 64 p + q. What stands there of two nodes that no link joins is not asked
unfoldable pub lanes_of : List ℕ → List ℕ → ℕ → List ℕ
lanes_of lowers uppers n = fold_below (λ l lanes. joined lanes (get_or lowers l 0) (get_or uppers l 0) l) (replicate 4096 0) n

unfoldable pub wires_of : Network → Wires
wires_of net =
    record {
      nodes = net.nodes;
      rounds = net.rounds;
      parents = net.parents;
      lanes = lanes_of net.lowers net.uppers net.links;
      neighbours = net.neighbours;
      children = net.children;
      preferred = net.preferred;
    }

-- the direction from p to q
abbrev pub lane_in : List ℕ → ℕ → ℕ → ℕ
lane_in lanes p q = get_or lanes (p * 64 + q) 0

abbrev pub lane_of : Wires → ℕ → ℕ → ℕ
lane_of w = lane_in w.lanes

abbrev pub parent_of : Wires → ℕ → ℕ
parent_of w p = get_or w.parents p 0

-- "A node that names itself as parent is a root"
unfoldable pub is_root : List ℕ → ℕ → Bool
is_root parents p = eqb (get_or parents p 0) p

-- the first n entries are node numbers that the tables have room for
abbrev pub Below64 : List ℕ → ℕ → Type 0
Below64 xs n = (i : ℕ) → i < n → get_or xs i 0 < 64

-- what an action finds around its nodes
unfoldable pub around_of : Wires → ℕ → ℕ → Around
around_of w p q =
    record {
      lane = lane_of w p q;
      back = lane_of w q p;
      parent = parent_of w p;
      root = is_root w.parents p;
      rooted = is_root w.parents (parent_of w p);
    }
