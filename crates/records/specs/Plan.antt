-- A plan as data, the bytes that hold it, the network that it is, and the rules 1 to 5 that it keeps, in document 01's words.
-- Assumes nothing.
use Rattle.std.specs.Prelude.{ℕ, suc, ◌-◌, ◌/◌, ◌%◌, ◌<◌, ◌≤◌, ◌≡◌, ◌⊎◌, List, [], ◌∷◌, ◌++◌, map, length, replicate}
use Rattle.network.specs.declared.Network.{Network}

-- a node's record without its number, which is its place in the list
pub record PlanNode : Type 0 where
  pub parent : ℕ
  pub start : ℕ

-- "link: ends a and b, flag 0 ordinary or 1 preferred"
pub record PlanLink : Type 0 where
  pub a : ℕ
  pub b : ℕ
  pub flag : ℕ

-- "A plan is one kind 1, then nodes .., then links .., then kind 0"
pub record Plan : Type 0 where
  pub rounds : ℕ
  pub nodes : List PlanNode
  pub links : List PlanLink

-- ---- its bytes

-- "Two-byte numbers have the high byte first"
unfoldable pub two_bytes : ℕ → List ℕ
two_bytes n = n / 256 ∷ n % 256 ∷ []

unfoldable pub rounds_bytes : ℕ → List ℕ
rounds_bytes v = 1 ∷ two_bytes v

-- "nodes numbered 0, 1, 2.. in order"
unfoldable pub node_bytes : ℕ → PlanNode → List ℕ
node_bytes number x = 2 ∷ number ∷ x.parent ∷ two_bytes x.start

unfoldable pub nodes_bytes : ℕ → List PlanNode → List ℕ
nodes_bytes number [] = []
nodes_bytes number (x ∷ xs) = node_bytes number x ++ nodes_bytes (suc number) xs

unfoldable pub link_bytes : PlanLink → List ℕ
link_bytes x = 3 ∷ x.a ∷ x.b ∷ x.flag ∷ []

unfoldable pub links_bytes : List PlanLink → List ℕ
links_bytes [] = []
links_bytes (x ∷ xs) = link_bytes x ++ links_bytes xs

unfoldable pub bytes_of : Plan → List ℕ
bytes_of p = rounds_bytes p.rounds ++ nodes_bytes 0 p.nodes ++ links_bytes p.links ++ 0 ∷ []

-- ---- its network

-- the entries, and 0 in the places past them
unfoldable pub padded : ℕ → List ℕ → List ℕ
padded n xs = xs ++ replicate (n - length xs) 0

-- the network of a plan, its derived sets still empty
unfoldable pub network_of : Plan → Network
network_of p =
    record {
      nodes = length p.nodes;
      links = length p.links;
      rounds = p.rounds;
      parents = padded 64 (map (λ x. x.parent) p.nodes);
      starts = padded 64 (map (λ x. x.start) p.nodes);
      lowers = padded 128 (map (λ x. x.a) p.links);
      uppers = padded 128 (map (λ x. x.b) p.links);
      flags = padded 128 (map (λ x. x.flag) p.links);
      neighbours = replicate 64 0;
      children = replicate 64 0;
      preferred = replicate 64 0;
    }

-- ---- what a plan keeps

-- "Any byte is a parent until check 6"; "start value (2 bytes, 0 to 65,535)"
unfoldable pub NodesFit : List PlanNode → Type 0
NodesFit [] = Unit {0}
NodesFit (x ∷ xs) = (x.parent < 256) × (x.start < 65536) × NodesFit xs

-- "A link needs a < b < node count", flag 0 or 1
abbrev pub LinkFits : ℕ → PlanLink → Type 0
LinkFits count x = (x.a < x.b) × (x.b < count) × (x.flag ≤ 1)

unfoldable pub LinksFit : ℕ → List PlanLink → Type 0
LinksFit count [] = Unit {0}
LinksFit count (x ∷ xs) = LinkFits count x × LinksFit count xs

-- (a, b) of y stands above (a, b) of x
abbrev pub Above : PlanLink → PlanLink → Type 0
Above x y = (x.a < y.a) ⊎ ((x.a ≡ y.a) × (x.b < y.b))

-- "links in strictly rising order of (a, b)"
unfoldable pub RisingFrom : PlanLink → List PlanLink → Type 0
RisingFrom x [] = Unit {0}
RisingFrom x (y ∷ ys) = Above x y × RisingFrom y ys

unfoldable pub Rising : List PlanLink → Type 0
Rising [] = Unit {0}
Rising (x ∷ xs) = RisingFrom x xs

-- the rules that are checked record by record
pub record Keeps1to5 (p : Plan) : Type 0 where
  -- "rounds, 1 to 10,000"
  pub some_round : 1 ≤ p.rounds
  pub at_most_10000_rounds : p.rounds ≤ 10000
  -- "Nodes 1 to 64, links 0 to 128"
  pub some_node : 1 ≤ length p.nodes
  pub at_most_64_nodes : length p.nodes ≤ 64
  pub at_most_128_links : length p.links ≤ 128
  pub nodes_fit : NodesFit p.nodes
  pub links_fit : LinksFit (length p.nodes) p.links
  pub links_rise : Rising p.links
