-- The whole-plan checks 8 and 9, over the table of roots: each a test of one link with the first link that fails it, and the rule that it
-- tests as a proposition. And the number of clusters.
-- Assumes nothing.
use Rattle.std.specs.Prelude.{ℕ, ◌<◌, ◌≡◌, Bool, false, not, List, get_or, replicate, ltb, eqb}
use Rattle.laws.specs.Choice.{if_lt, if_eq, both}
use Rattle.laws.specs.Below.{count_below, first_of, over_below}
use Rattle.network.specs.declared.Network.{Network}
use Rattle.links.specs.Links.{nodes_of, links_of, joins, SamePair}
use Rattle.tree.specs.Climb.{parent_in, root_from, root_number}

-- for each node the root of its cluster; 64 where its parents lead to none, and past the node count
unfoldable pub roots_of : List ℕ → ℕ → List ℕ
roots_of parents n = over_below (λ p. root_number (root_from (parent_in parents) n n p)) n (replicate 64 64)

abbrev pub root_table : Network → List ℕ
root_table net = roots_of net.parents (nodes_of net)

-- a preferred link has the flag 1
abbrev pub preferred : List ℕ → ℕ → Bool
preferred flags l = ltb 0 (get_or flags l 0)

-- the root of p by the table; 64 for a number that has no entry
unfoldable pub root_at : List ℕ → ℕ → ℕ
root_at roots p = if_lt p 64 (get_or roots p 0) 64

-- the cluster of one end of link l, by its root
abbrev pub cluster_at : List ℕ → List ℕ → ℕ → ℕ
cluster_at roots ends l = root_at roots (get_or ends l 0)

-- ---- 8: "preferred link inside a cluster"

unfoldable pub inside : List ℕ → List ℕ → List ℕ → List ℕ → ℕ → Bool
inside roots lowers uppers flags l =
    both (preferred flags l) (eqb (cluster_at roots lowers l) (cluster_at roots uppers l))

-- "first such link, from 0", and the link count where there is none
unfoldable pub first_inside : Network → ℕ
first_inside net = first_of (inside (root_table net) net.lowers net.uppers net.flags) (links_of net)

-- ---- 9: "two joined clusters with none or several preferred"

-- link l is preferred and joins the clusters x and y, in whichever order
unfoldable pub chosen : List ℕ → List ℕ → List ℕ → List ℕ → ℕ → ℕ → ℕ → Bool
chosen roots lowers uppers flags l x y =
    both (preferred flags l) (joins (cluster_at roots lowers l) (cluster_at roots uppers l) x y)

-- how many of n links are
unfoldable pub preferred_between : List ℕ → List ℕ → List ℕ → List ℕ → ℕ → ℕ → ℕ → ℕ
preferred_between roots lowers uppers flags n x y = count_below (λ l. chosen roots lowers uppers flags l x y) n

-- the two clusters have none or several
unfoldable pub not_one : List ℕ → List ℕ → List ℕ → List ℕ → ℕ → ℕ → ℕ → Bool
not_one roots lowers uppers flags n x y = if_eq x y false (not (eqb (preferred_between roots lowers uppers flags n x y) 1))

-- "first link joining such a pair", preferred or not, and the link count where there is none
unfoldable pub first_not_one : Network → ℕ
first_not_one net =
    first_of (λ l. not_one (root_table net) net.lowers net.uppers net.flags (links_of net) (cluster_at (root_table net) net.lowers l) (cluster_at (root_table net) net.uppers l)) (links_of net)

-- ---- "Clusters is the number of roots"

unfoldable pub cluster_count : Network → ℕ
cluster_count net = count_below (λ p. eqb (parent_in net.parents p) p) (nodes_of net)

-- ---- the rules as propositions

-- the cluster of a node, by its root
unfoldable pub cluster_of : Network → ℕ → ℕ
cluster_of net p = root_number (root_from (parent_in net.parents) (nodes_of net) (nodes_of net) p)

-- link l is preferred
abbrev pub Preferred : Network → ℕ → Type 0
Preferred net l = 0 < get_or net.flags l 0

-- link l joins the clusters x and y, in whichever order
abbrev pub Between : Network → ℕ → ℕ → ℕ → Type 0
Between net l x y = SamePair (cluster_of net (get_or net.lowers l 0)) (cluster_of net (get_or net.uppers l 0)) x y

-- exactly one of the links is preferred and joins the clusters x and y
pub record OnePreferred (net : Network) (x y : ℕ) : Type 0 where
  pub link : ℕ
  pub below : link < links_of net
  pub preferred_link : Preferred net link
  pub between_them : Between net link x y
  pub only : (k : ℕ) → k < links_of net → Preferred net k → Between net k x y → k ≡ link

-- 8, of one link: "A preferred link joins two clusters."
unfoldable pub JoinsTwo : Network → ℕ → Type 0
JoinsTwo net l = Preferred net l → cluster_of net (get_or net.lowers l 0) ≡ cluster_of net (get_or net.uppers l 0) → ⊥

-- 9, of one link: if it joins two clusters, exactly one of the links between these is preferred
unfoldable pub PairHasOne : Network → ℕ → Type 0
PairHasOne net l =
    (cluster_of net (get_or net.lowers l 0) ≡ cluster_of net (get_or net.uppers l 0) → ⊥)
    → OnePreferred net (cluster_of net (get_or net.lowers l 0)) (cluster_of net (get_or net.uppers l 0))

-- "A preferred link joins two clusters. For each two clusters with any link between them, exactly one of these links is preferred."
pub record WellPreferred (net : Network) : Type 0 where
  pub joins_two : (l : ℕ) → l < links_of net → Preferred net l → cluster_of net (get_or net.lowers l 0) ≡ cluster_of net (get_or net.uppers l 0) → ⊥
  pub exactly_one : (x y l : ℕ) → (x ≡ y → ⊥) → l < links_of net → Between net l x y → OnePreferred net x y
