-- What an accepted network is known by, in the form that the theorems about runs use: every number of it is in range, links are symmetric in
-- the sets, the root of every node is its own parent, any two clusters with a link between them have exactly one preferred link, every node is
-- joined to node 0, and the clusters are counted by their roots.
-- Assumes nothing.
use Prim.Native.Nat.{ℕ, ◌<◌}
use native.Mathlib.Omega.{arith}
use mathlib.Core.Path.{◌≡◌, refl, sym, ◌∙◌, ap, subst}
use mathlib.Core.Bool.{true}
use mathlib.Core.Logic.{◌↔◌}
use mathlib.Core.List.{List}
use lib.ListN.{get_or}
use lib.Dec.{eqb}
use borrow.Author.Tests.{eq-eqb, eqb-true}
use Rattle.laws.specs.Choice.{if_b}
use Rattle.laws.specs.Below.{count_below, sum_below}
use Rattle.laws.proofs.Choice.{same_test}
use Rattle.laws.proofs.Below.{sum_same}
use Rattle.nodeset.specs.Marks.{member}
use Rattle.network.specs.declared.Network.{Network}
use Rattle.network.specs.Sets.{link_set, Ends, rising, falling}
use Rattle.network.specs.Valid.{Clauses}
use Rattle.network.proofs.Sets.{link_set_from, link_set_to}
use Rattle.network.proofs.Valid.{ends_below}
use Rattle.links.specs.Links.{nodes_of, links_of, straight, crossed, Linked}
use Rattle.links.proofs.Breach.{none_exactly}
use Rattle.links.proofs.Links.{linked_exactly}
use Rattle.tree.specs.Climb.{parent_in, root_of, IsRoot, LeadsIn}
use Rattle.tree.specs.Checks.{first_lost}
use Rattle.tree.proofs.Checks.{lost_is_breach, root_of_is_root}
use Rattle.tree.proofs.Roots.{leads_to_root_of}
use Rattle.clusters.specs.Clusters.{cluster_of, cluster_count, Preferred, Between, OnePreferred, WellPreferred}
use Rattle.clusters.proofs.Checks.{well_preferred_exactly, inside_is_breach, not_one_is_breach}
use Rattle.clusters.proofs.Roots.{cluster_is_root}
use Rattle.joined.specs.Joined.{JoinedIn}
use Rattle.plan.specs.Accepted.{Keeps6to10, Accepted}
use Rattle.plan.proofs.Valid.{accepted_clauses}

-- a preferred link between the clusters of p and of q, by its end in each
pub record PreferredAcross (net : Network) (p q : ℕ) : Type 0 where
  pub near : ℕ
  pub far : ℕ
  pub near_below : near < net.nodes
  pub preferred_link : member (get_or net.preferred near 0) far ≡ true
  pub with_p : root_of (parent_in net.parents) net.nodes near ≡ root_of (parent_in net.parents) net.nodes p
  pub with_q : root_of (parent_in net.parents) net.nodes far ≡ root_of (parent_in net.parents) net.nodes q

module _ {s : List ℕ} {n : ℕ} (net : Network) (A : Accepted s n net) where
  C : Clauses net
  C = accepted_clauses A

  pub keeps_whole : Keeps6to10 net
  keeps_whole = rw A.network A.keeps_whole

  -- all of the nodes and links that the network counts are there
  pub all_nodes_lem : nodes_of net ≡ net.nodes
  all_nodes_lem = omega (arith, C.limits.at_most_64_nodes)

  pub all_links : links_of net ≡ net.links
  all_links = omega (arith, C.limits.at_most_128_links)

  -- ---- ranges

  pub parent_in_range : (p : ℕ) → p < net.nodes → get_or net.parents p 0 < net.nodes
  parent_in_range = C.ranges.parent_below_lem

  pub ends_in_range : (l : ℕ) → l < net.links → (get_or net.lowers l 0 < get_or net.uppers l 0) × (get_or net.uppers l 0 < net.nodes)
  ends_in_range l h = (C.order.ends_rise l h, C.ranges.upper_below l h)

  -- ---- the sets

  -- a set over the links whose flag is at least the one asked for
  set_symmetric : (least p q : ℕ) → p < net.nodes → member (link_set net.lowers net.uppers net.flags least (links_of net) p) q ≡ true → (q < net.nodes) × (member (link_set net.lowers net.uppers net.flags least (links_of net) q) p ≡ true)
  set_symmetric least p q h m =
      let (l, b, (f, e)) = link_set_from net.lowers net.uppers net.flags least (links_of net) p q m in
      let below = ends_below net C.limits C.ranges l p q (omega (arith, all_links)) e in
      (below.1, link_set_to net.lowers net.uppers net.flags least (links_of net) l q p b f (turned e) (omega (arith, C.limits.at_most_64_nodes)))
    where
      turned : {l p q : ℕ} → Ends net.lowers net.uppers l p q → Ends net.lowers net.uppers l q p
      turned (rising x y) = falling x y
      turned (falling x y) = rising x y

  -- links are symmetric in the neighbour sets, and in the preferred sets
  pub neighbours_symmetric : (p q : ℕ) → p < net.nodes → member (get_or net.neighbours p 0) q ≡ true → (q < net.nodes) × (member (get_or net.neighbours q 0) p ≡ true)
  neighbours_symmetric p q h m =
      let (i, j) = set_symmetric 0 p q h (rw (C.derived.neighbours_agree p h) at m) in
      (i, rw (C.derived.neighbours_agree q i) j)

  pub preferred_symmetric : (p q : ℕ) → p < net.nodes → member (get_or net.preferred p 0) q ≡ true → (q < net.nodes) × (member (get_or net.preferred q 0) p ≡ true)
  preferred_symmetric p q h m =
      let (i, j) = set_symmetric 1 p q h (rw (C.derived.preferred_agree p h) at m) in
      (i, rw (C.derived.preferred_agree q i) j)

  -- q is a neighbour of p exactly if some link joins them
  pub neighbour_exactly : (p q : ℕ) → p < net.nodes → q < net.nodes → Linked net.lowers net.uppers net.links p q ↔ (member (get_or net.neighbours p 0) q ≡ true)
  neighbour_exactly p q h i =
      rw (← all_links, C.derived.neighbours_agree p h) (linked_exactly net.lowers net.uppers (links_of net) net.flags p q (omega (arith, C.limits.at_most_64_nodes)))

  -- ---- roots and clusters

  abbrev up : ℕ → ℕ
  up = parent_in net.parents

  -- the root that the parents of p lead to
  abbrev root : ℕ → ℕ
  root p = root_of up net.nodes p

  none_lost : first_lost net ≡ nodes_of net
  none_lost = (none_exactly (lost_is_breach net)).1 keeps_whole.rooted

  -- "every node's root is its own parent"
  pub root_is_own_parent : (p : ℕ) → p < net.nodes → IsRoot up net.nodes (root p)
  root_is_own_parent p h =
      subst (λ k. IsRoot up k (root_of up k p)) all_nodes_lem (root_of_is_root net none_lost p (omega (arith, all_nodes_lem)))

  cluster_is : (p : ℕ) → p < net.nodes → cluster_of net p ≡ root p
  cluster_is p h = cluster_is_root net none_lost p (omega (arith, all_nodes_lem)) ∙ ap (λ k. root_of up k p) all_nodes_lem

  pub well_preferred : WellPreferred net
  well_preferred =
      (well_preferred_exactly net).0 ((none_exactly (inside_is_breach net)).1 keeps_whole.joins_two, (none_exactly (not_one_is_breach net)).1 keeps_whole.pair_has_one)

  -- "for each two clusters with any link between them, exactly one of these links is preferred"
  pub one_preferred : (x y l : ℕ) → (x ≡ y → ⊥) → l < net.links → Between net l x y → OnePreferred net x y
  one_preferred x y l d h b = well_preferred.exactly_one x y l d (omega (arith, all_links)) b

  -- a link that is preferred, as its ends see it
  preferred_ends : (k : ℕ) → k < net.links → Preferred net k → member (get_or net.preferred (get_or net.lowers k 0) 0) (get_or net.uppers k 0) ≡ true
  preferred_ends k h f =
      let a = get_or net.lowers k 0 in
      let b = get_or net.uppers k 0 in
      rw (C.derived.preferred_agree a (omega (arith, ends_in_range k h)))
      (link_set_to net.lowers net.uppers net.flags 1 (links_of net) k a b (omega (arith, all_links)) f (rising refl refl) (omega (arith, ends_in_range k h, C.limits.at_most_64_nodes)))

  -- neighbours in two clusters: a preferred link joins the same two
  pub preferred_across : (p q : ℕ) → p < net.nodes → member (get_or net.neighbours p 0) q ≡ true → (root p ≡ root q → ⊥) → PreferredAcross net p q
  preferred_across p q h m d =
      let i = (neighbours_symmetric p q h m).0 in
      let l = (neighbour_exactly p q h i).1 m in
      let o = one_preferred (cluster_of net p) (cluster_of net q) l.link (λ e. d (sym (cluster_is p h) ∙ e ∙ cluster_is q i)) l.below (between l.ends) in
      let k : o.link < net.links = omega (arith, all_links, o.below) in
      at i o.link k (preferred_ends o.link k o.preferred_link) o.between_them
    where
      between : {l : ℕ} → Ends net.lowers net.uppers l p q → Between net l (cluster_of net p) (cluster_of net q)
      between (rising x y) = straight (ap (cluster_of net) x) (ap (cluster_of net) y)
      between (falling x y) = crossed (ap (cluster_of net) x) (ap (cluster_of net) y)

      at : q < net.nodes → (k : ℕ) → k < net.links → member (get_or net.preferred (get_or net.lowers k 0) 0) (get_or net.uppers k 0) ≡ true → Between net k (cluster_of net p) (cluster_of net q) → PreferredAcross net p q
      at i k b e (straight x y) =
          let lower : get_or net.lowers k 0 < net.nodes = omega (arith, ends_in_range k b) in
          record {
            near = get_or net.lowers k 0;
            far = get_or net.uppers k 0;
            near_below = lower;
            preferred_link = e;
            with_p = sym (cluster_is _ lower) ∙ x ∙ cluster_is p h;
            with_q = sym (cluster_is _ (ends_in_range k b).1) ∙ y ∙ cluster_is q i;
          }
      at i k b e (crossed x y) =
          let lower : get_or net.lowers k 0 < net.nodes = omega (arith, ends_in_range k b) in
          let (upper, f) = preferred_symmetric _ _ lower e in
          record {
            near = get_or net.uppers k 0;
            far = get_or net.lowers k 0;
            near_below = upper;
            preferred_link = f;
            with_p = sym (cluster_is _ upper) ∙ y ∙ cluster_is p h;
            with_q = sym (cluster_is _ lower) ∙ x ∙ cluster_is q i;
          }

  -- "All nodes are joined through links."
  pub all_joined : (p : ℕ) → p < net.nodes → JoinedIn net p
  all_joined p h = keeps_whole.joined p (omega (arith, all_nodes_lem))

  -- "Clusters is the number of roots": the nodes to which their own parents lead
  pub clusters_counted : cluster_count net ≡ count_below (λ r. eqb (root r) r) net.nodes
  unfolding cluster_count count_below LeadsIn
  clusters_counted =
      ap (sum_below (λ k. if_b (eqb (up k) k) 1 0)) all_nodes_lem
      ∙ sum_same (λ k. if_b (eqb (up k) k) 1 0) (λ k. if_b (eqb (root k) k) 1 0) net.nodes (λ k h. ap (λ t. if_b t 1 0) (one_test k h))
    where
      own_is_root : (k : ℕ) → k < net.nodes → up k ≡ k → root k ≡ k
      own_is_root k h e =
          leads_to_root_of up net.nodes (record { steps = 0; way = (refl, record { node = h; own_parent = e }) })

      root_is_own : (k : ℕ) → k < net.nodes → root k ≡ k → up k ≡ k
      root_is_own k h e = subst (λ r. up r ≡ r) e (root_is_own_parent k h).own_parent

      one_test : (k : ℕ) → k < net.nodes → eqb (up k) k ≡ eqb (root k) k
      one_test k h =
          same_test (eqb (up k) k) (eqb (root k) k) (λ e. eq-eqb (root k) k (own_is_root k h (eqb-true (up k) k e)))
          (λ e. eq-eqb (up k) k (root_is_own k h (eqb-true (root k) k e)))
