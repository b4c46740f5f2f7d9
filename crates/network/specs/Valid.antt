-- The network half of answer 17, as a test over any network. `Clauses` has the same list as propositions, a clause of document 01 each.
-- Assumes nothing.
use Rattle.std.specs.Prelude.{ℕ, ◌-◌, ◌<◌, ◌≤◌, ◌≡◌, Bool, true, false, List, get_or, ltb, leb, eqb}
use Rattle.laws.specs.Choice.{if_lt, if_eq, both}
use Rattle.laws.specs.Below.{all_below}
use Rattle.network.specs.declared.Network.{Network}
use Rattle.network.specs.Sets.{neighbours_of, children_of, preferred_of}

-- "Nodes 1 to 64, links 0 to 128", "rounds, 1 to 10,000"
unfoldable pub within_limits : ℕ → ℕ → ℕ → Bool
within_limits nodes links rounds =
    both (leb 1 nodes) (both (leb nodes 64) (both (leb links 128) (both (leb 1 rounds) (leb rounds 10000))))

-- a node's entries: its parent is below the node count; past the count its entries are 0
unfoldable pub node_fits : ℕ → ℕ → ℕ → ℕ → Bool
node_fits nodes p parent start = if_lt p nodes (ltb parent nodes) (both (eqb parent 0) (eqb start 0))

-- the link (a, b) stands below the link (c, d): "links in strictly rising order of (a, b)"
unfoldable pub rises : ℕ → ℕ → ℕ → ℕ → Bool
rises a b c d = if_lt a c true (if_eq a c (ltb b d) false)

-- a link's own entries: "a < b < node count", flag 0 or 1
unfoldable pub link_fits : ℕ → ℕ → ℕ → ℕ → Bool
link_fits nodes a b flag = both (ltb a b) (both (ltb b nodes) (ltb flag 2))

-- the link at place l rises above the one before it
unfoldable pub link_rises : List ℕ → List ℕ → ℕ → Bool
link_rises lowers uppers l =
    if_eq l 0 true (rises (get_or lowers (l - 1) 0) (get_or uppers (l - 1) 0) (get_or lowers l 0) (get_or uppers l 0))

-- the link at place l: it fits and rises; past the link count its entries are 0
unfoldable pub link_stands : ℕ → ℕ → List ℕ → List ℕ → List ℕ → ℕ → Bool
link_stands nodes links lowers uppers flags l =
    if_lt l links
    (both (link_fits nodes (get_or lowers l 0) (get_or uppers l 0) (get_or flags l 0)) (link_rises lowers uppers l))
    (both (eqb (get_or lowers l 0) 0) (both (eqb (get_or uppers l 0) 0) (eqb (get_or flags l 0) 0)))

-- the sets kept for the 64 places are what the lists give
unfoldable pub agrees : List ℕ → (ℕ → ℕ) → Bool
agrees kept given = all_below (λ p. eqb (get_or kept p 0) (given p)) 64

-- the network is within the ranges of answer 17
unfoldable pub valid_network : Network → Bool
valid_network net =
    both (within_limits net.nodes net.links net.rounds)
    (both (all_below (λ p. node_fits net.nodes p (get_or net.parents p 0) (get_or net.starts p 0)) 64)
    (both (all_below (link_stands net.nodes net.links net.lowers net.uppers net.flags) 128)
    (both (agrees net.neighbours (neighbours_of net))
    (both (agrees net.children (children_of net)) (agrees net.preferred (preferred_of net))))))

-- ---- the same list as propositions, clause by clause in document 01's words

-- "nodes, links or rounds are outside their limits"
pub record Limits (net : Network) : Type 0 where
  pub some_node : 0 < net.nodes
  pub at_most_64_nodes : net.nodes ≤ 64
  pub at_most_128_links : net.links ≤ 128
  pub some_round : 0 < net.rounds
  pub at_most_10000_rounds : net.rounds ≤ 10000

-- "a link end or parent is not below the node count, or a flag is above 1"
pub record Ranges (net : Network) : Type 0 where
  pub parent_below_lem : (p : ℕ) → p < net.nodes → get_or net.parents p 0 < net.nodes
  pub lower_below : (l : ℕ) → l < net.links → get_or net.lowers l 0 < net.nodes
  pub upper_below : (l : ℕ) → l < net.links → get_or net.uppers l 0 < net.nodes
  pub flag_at_most_1 : (l : ℕ) → l < net.links → get_or net.flags l 0 ≤ 1

-- "a link has a not below b, or links do not rise strictly"
pub record Order (net : Network) : Type 0 where
  pub ends_rise : (l : ℕ) → l < net.links → get_or net.lowers l 0 < get_or net.uppers l 0
  pub links_rise : (k l : ℕ) → k < l → l < net.links → rises (get_or net.lowers k 0) (get_or net.uppers k 0) (get_or net.lowers l 0) (get_or net.uppers l 0) ≡ true

-- "a neighbour or child set, or any other derived fact, kept beside the list differs from what the list gives"
pub record Derived (net : Network) : Type 0 where
  pub neighbours_agree : (p : ℕ) → p < net.nodes → get_or net.neighbours p 0 ≡ neighbours_of net p
  pub children_agree : (p : ℕ) → p < net.nodes → get_or net.children p 0 ≡ children_of net p
  pub preferred_agree : (p : ℕ) → p < net.nodes → get_or net.preferred p 0 ≡ preferred_of net p

-- "an entry past the node or link count .. is not 0"
pub record Rest (net : Network) : Type 0 where
  pub no_parent : (p : ℕ) → net.nodes ≤ p → p < 64 → get_or net.parents p 0 ≡ 0
  pub no_start : (p : ℕ) → net.nodes ≤ p → p < 64 → get_or net.starts p 0 ≡ 0
  pub no_neighbours : (p : ℕ) → net.nodes ≤ p → p < 64 → get_or net.neighbours p 0 ≡ 0
  pub no_children : (p : ℕ) → net.nodes ≤ p → p < 64 → get_or net.children p 0 ≡ 0
  pub no_preferred : (p : ℕ) → net.nodes ≤ p → p < 64 → get_or net.preferred p 0 ≡ 0
  pub no_lower : (l : ℕ) → net.links ≤ l → l < 128 → get_or net.lowers l 0 ≡ 0
  pub no_upper : (l : ℕ) → net.links ≤ l → l < 128 → get_or net.uppers l 0 ≡ 0
  pub no_flag : (l : ℕ) → net.links ≤ l → l < 128 → get_or net.flags l 0 ≡ 0

-- every clause of 17 that speaks of the network
pub record Clauses (net : Network) : Type 0 where
  pub limits : Limits net
  pub ranges : Ranges net
  pub order : Order net
  pub derived : Derived net
  pub rest : Rest net
