-- What follows from the rule alone of a plan q that is p laid out: q keeps rules 1 to 5 as p does, and rules 6 to 10 if all nodes are joined; no
-- node is deeper than asked; depth 0 makes each node its own cluster.
-- Assumes nothing.
use Prim.Native.Nat.{ℕ, ◌<◌, ◌≤◌}
use native.Mathlib.Omega.{arith}
use native.Mathlib.Decide.{ℕ_discrete}
use mathlib.Core.Path.{◌≡◌, sym, ◌∙◌, subst}
use lib.ListN.{length, get_or}
use Rattle.network.specs.Sets.{with_sets}
use Rattle.records.specs.Plan.{Plan, network_of, Keeps1to5}
use Rattle.links.specs.Links.{nodes_of, links_of, has_link}
use Rattle.tree.specs.Climb.{parent_in, depth_of}
use Rattle.joined.specs.Joined.{JoinedIn}
use Rattle.plan.specs.Accepted.{plan_network, Every, Keeps6to10}
use Rattle.claims.specs.Claimed.{ClaimedSo}
use Rattle.claims.proofs.Layouts.{parent_below_lem}
use Rattle.claims.proofs.Turns.{claimed_links}
use Rattle.layout.specs.FirstLinks.{FirstLinks}
use Rattle.layout.specs.LaidOut.{parents_in, flags_in, LaidOut}
use Rattle.layout.proofs.KeepsRecords.{keeps_too}
use Rattle.layout.proofs.KeepsWhole.{keeps_whole, within_depth, own_clusters}
use Rattle.layout.proofs.Places.{all_nodes_lem}
use Rattle.layout.proofs.Wires.{wires_nodes, wires_links, wired_same, joined_same, entry_in_network, wired_in_network}

-- ---- the entries of a plan's network are the plan's

pub parent_in_network : (p : Plan) (i : ℕ) → i < length p.nodes → parent_in (plan_network p).parents i ≡ get_or (parents_in p) i 0
unfolding with_sets network_of
parent_in_network p i h = entry_in_network (λ x. x.parent) 64 p.nodes i h

pub flag_in_network : (p : Plan) (l : ℕ) → l < length p.links → get_or (plan_network p).flags l 0 ≡ get_or (flags_in p) l 0
unfolding with_sets network_of
flag_in_network p l h = entry_in_network (λ x. x.flag) 128 p.links l h

-- a flag that marks the first links is 0 or 1
first_flags_small : (p : Plan) → FirstLinks (plan_network p) → (l : ℕ) → l < links_of (plan_network p) → get_or (plan_network p).flags l 0 ≤ 1
first_flags_small p firsts l h = at (ℕ_discrete (get_or (plan_network p).flags l 0) 1)
  where
    at : Dec (get_or (plan_network p).flags l 0 ≡ 1) → get_or (plan_network p).flags l 0 ≤ 1
    at (yes e) = omega arith
    at (no d) = omega (arith, firsts.else_zero l h d)

module _ {depth : ℕ} {p q : Plan} (L : LaidOut depth p q) (K : Keeps1to5 p) where
  -- who claimed a node is a node
  parent_is_node : (i : ℕ) → i < length q.nodes → get_or (parents_in q) i 0 < length p.nodes
  parent_is_node i h =
      let b : i < length p.nodes = omega (arith, wires_nodes L.same) in
      omega (arith, L.parents i b, parent_below_lem L.claimed i b)

  flag_small : (l : ℕ) → l < length q.links → get_or (flags_in q) l 0 ≤ 1
  unfolding with_sets network_of
  flag_small l h =
      omega (arith, flag_in_network q l h, first_flags_small q L.preferred l (omega (arith, wires_links L.same, K.at_most_128_links)))

  -- the records are as good as before
  pub laid_records : Keeps1to5 q
  laid_records = keeps_too p q L.same K (λ i h. omega (arith, parent_is_node i h, K.at_most_64_nodes)) flag_small

  nodes_are : nodes_of (plan_network q) ≡ length p.nodes
  nodes_are = all_nodes_lem q laid_records ∙ wires_nodes L.same

  -- the claims over q's own network
  so : ClaimedSo (has_link (plan_network q).lowers (plan_network q).uppers (links_of (plan_network q))) (nodes_of (plan_network q)) depth L.claims
  so =
      subst (λ n. ClaimedSo (has_link (plan_network q).lowers (plan_network q).uppers (links_of (plan_network q))) n depth L.claims) (sym nodes_are)
      (claimed_links (λ x y _ _. sym (wired_in_network q laid_records x y)) (subst (λ near. ClaimedSo near (length p.nodes) depth L.claims) (sym (wired_same L.same)) L.claimed))

  claimed_by : (i : ℕ) → i < nodes_of (plan_network q) → parent_in (plan_network q).parents i ≡ L.claims.by i
  claimed_by i h = parent_in_network q i (omega (arith, all_nodes_lem q laid_records)) ∙ L.parents i (omega (arith, nodes_are))

  -- "what is written is always accepted"
  pub laid_keeps : Every (JoinedIn (plan_network p)) (nodes_of (plan_network p)) → Keeps6to10 (plan_network q)
  laid_keeps joined = keeps_whole (plan_network q) so claimed_by L.preferred (joined_same L.same joined)

  -- "no node is deeper than asked"
  pub laid_no_deeper : (i : ℕ) → i < nodes_of (plan_network q) → depth_of (parent_in (plan_network q).parents) (nodes_of (plan_network q)) i ≤ depth
  laid_no_deeper = within_depth (plan_network q) so claimed_by

  -- "Depth 0 makes each node its own cluster."
  pub laid_at_0 : depth ≡ 0 → (i : ℕ) → i < length q.nodes → get_or (parents_in q) i 0 ≡ i
  laid_at_0 e i h =
      sym (parent_in_network q i h) ∙ own_clusters (plan_network q) so claimed_by e i (omega (arith, all_nodes_lem q laid_records))
