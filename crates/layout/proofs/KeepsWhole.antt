-- A network whose parents are claimed so and whose flags mark the first links keeps every rule over the whole plan, if all its nodes are joined. A
-- parent claimed, so it has a link (6); as many steps as a node is deep lead to its root (7); the first links between clusters are the preferred
-- ones (8, 9). And no node is deeper than asked.
-- Assumes nothing.
use Prim.Native.Nat.{ℕ, zero, suc, ◌<◌, ◌≤◌}
use mathlib.Core.Path.{◌≡◌, sym, ◌∙◌, subst}
use Rattle.network.specs.declared.Network.{Network}
use Rattle.links.specs.Links.{nodes_of, links_of, has_link, Linked}
use Rattle.links.proofs.Links.{linked_sym, has_link_linked}
use Rattle.tree.specs.Climb.{parent_in, depth_of}
use Rattle.tree.specs.Checks.{Tied, EndsAtRoot}
use Rattle.tree.proofs.Distance.{ExactIn, exact_leads, exact_unique}
use Rattle.tree.proofs.Depth.{depth_is_exact}
use Rattle.joined.specs.Joined.{JoinedIn}
use Rattle.plan.specs.Accepted.{Every, Keeps6to10}
use Rattle.claims.specs.Claimed.{Claims, ClaimedSo}
use Rattle.claims.proofs.Layouts.{parent_below_lem, parent_linked, deep_within, deep_exact, depth_0_all_roots}
use Rattle.layout.specs.FirstLinks.{FirstLinks}
use Rattle.layout.proofs.Preferred.{joins_two, pair_has_one}

-- the same parents of the nodes below n: as far to the same root
exact_same : (f g : ℕ → ℕ) (n : ℕ) → ((p : ℕ) → p < n → f p ≡ g p) → (k p r : ℕ) → ExactIn f n k p r → ExactIn g n k p r
unfolding ExactIn
exact_same f g n e zero p r x = (x.0, record { node = x.1.node; own_parent = sym (e r x.1.node) ∙ x.1.own_parent })
exact_same f g n e (suc k) p r x =
    (x.0, λ q. x.1 (e p x.0 ∙ q), subst (λ y. ExactIn g n k y r) (e p x.0) (exact_same f g n e k (f p) r x.2))

module _ (net : Network) {depth : ℕ} {c : Claims} (so : ClaimedSo (has_link net.lowers net.uppers (links_of net)) (nodes_of net) depth c) (parents : (p : ℕ) → p < nodes_of net → parent_in net.parents p ≡ c.by p) where
  abbrev up : ℕ → ℕ
  up = parent_in net.parents

  -- 6: "Each node that is no root has a link to its parent."
  tied : Every (Tied net) (nodes_of net)
  unfolding Tied
  tied p h no_root =
      subst (λ q. (q < nodes_of net) × Linked net.lowers net.uppers (links_of net) p q) (sym (parents p h)) (parent_below_lem so p h, linked_sym net.lowers net.uppers (links_of net) linked)
    where
      linked : Linked net.lowers net.uppers (links_of net) (c.by p) p
      linked =
          has_link_linked net.lowers net.uppers (links_of net) (c.by p) p (parent_linked so p h (λ q. no_root (parents p h ∙ q)))

  exact : (p : ℕ) → p < nodes_of net → (r : ℕ) × ExactIn (parent_in net.parents) (nodes_of net) (c.deep p) p r
  exact p h =
      let (r, x) = deep_exact so p h in
      (r, exact_same c.by up (nodes_of net) (λ q l. sym (parents q l)) (c.deep p) p r x)

  -- 7: "Following parents from a node must end at a root."
  rooted : Every (EndsAtRoot net) (nodes_of net)
  rooted p h =
      let (r, x) = exact p h in
      record { root = r; leads = record { steps = c.deep p; way = exact_leads up (nodes_of net) (c.deep p) p r x } }

  -- "what is written is always accepted": 8 and 9 by the first links, 10 as before
  pub keeps_whole : FirstLinks net → Every (JoinedIn net) (nodes_of net) → Keeps6to10 net
  keeps_whole firsts joined =
      record {
        tied = tied;
        rooted = rooted;
        joins_two = joins_two net firsts;
        pair_has_one = pair_has_one net firsts;
        joined = joined;
      }

  -- "no node is deeper than asked"
  pub within_depth : (p : ℕ) → p < nodes_of net → depth_of (parent_in net.parents) (nodes_of net) p ≤ depth
  within_depth p h =
      let (r, x) = exact p h in
      let y = depth_is_exact up (nodes_of net) (record { steps = c.deep p; way = exact_leads up (nodes_of net) (c.deep p) p r x }) in
      subst (λ k. k ≤ depth) (exact_unique up (nodes_of net) (c.deep p) (depth_of up (nodes_of net) p) p r r x y) (deep_within so p h)

  -- "Depth 0 makes each node its own cluster."
  pub own_clusters : depth ≡ 0 → (p : ℕ) → p < nodes_of net → parent_in net.parents p ≡ p
  own_clusters e p h = parents p h ∙ depth_0_all_roots so e p h
