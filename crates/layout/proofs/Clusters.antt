-- Where every node's parents lead to a root, each node's entry in the table of roots is a node: so the clusters that the flags are told by are
-- all below 64. Parents that are claimed so do lead to roots.
-- Assumes nothing.
use Prim.Native.Nat.{ℕ, ◌<◌, ◌≤◌}
use native.Mathlib.Omega.{arith}
use mathlib.Core.Path.{◌≡◌, ◌∙◌, ap}
use mathlib.Core.List.{List}
use lib.ListN.{get_or, replicate, length-replicate}
use Rattle.laws.proofs.Choice.{if_lt_yes}
use Rattle.laws.proofs.Below.{over_below_lem}
use Rattle.tree.specs.Climb.{parent_in, root_from, root_number, Leads}
use Rattle.tree.proofs.Roots.{found_exactly, leads_root}
use Rattle.clusters.specs.Clusters.{roots_of, root_at}
use Rattle.claims.specs.Claiming.{claim_all, parents_of}
use Rattle.claims.proofs.Layouts.{deep_leads}
use Rattle.claims.proofs.Steps.{claimed_so}
use Rattle.records.specs.Numbers.{accepted}
use Rattle.records.specs.Reader.{lists_of}
use Rattle.laws.specs.Lists.{Bytes}
use Rattle.links.specs.Links.{nodes_of, links_of}
use Rattle.layout.specs.Layout.{wires_of, laid_parents, Clustered}
use Rattle.layout.proofs.Places.{ends_within}

-- the table holds the root that the parents of a node lead to
pub root_in_table : (parents : List ℕ) (n p r : ℕ) → n ≤ 64 → p < n → Leads (parent_in parents) n p r → root_at (roots_of parents n) p ≡ r
unfolding root_at roots_of
root_in_table parents n p r few h x =
    if_lt_yes p 64 _ 64 (omega arith)
    ∙ over_below_lem (λ q. root_number (root_from (parent_in parents) n n q)) n (replicate 64 64) p 0 h (omega (arith, length-replicate {A = ℕ} 64 64))
    ∙ ap root_number ((found_exactly (parent_in parents) n p r).1 x)

-- the parents that are laid out lead to a root
pub laid_leads : (sets : List ℕ) (n depth p : ℕ) → n ≤ 64 → p < n → (r : ℕ) × Leads (parent_in (parents_of sets n depth)) n p r
unfolding parents_of
laid_leads sets n depth p few h =
    let (r, way) = deep_leads (claimed_so sets n depth few) p h in
    (r, record { steps = get_or (claim_all sets n depth).deep p 0; way = way })

pub root_within : (sets : List ℕ) (n depth p : ℕ) → n ≤ 64 → p < n → root_at (roots_of (parents_of sets n depth) n) p < 64
root_within sets n depth p few h =
    let (r, x) = laid_leads sets n depth p few h in
    omega (arith, root_in_table (parents_of sets n depth) n p r few h x, (leads_root (parent_in (parents_of sets n depth)) n x).node)

-- the clusters at the two ends of each link are nodes
pub clusters_within :
    (s : List ℕ) (depth : ℕ) → Bytes s → (lists_of s).number ≡ accepted
    → Clustered (roots_of (laid_parents (wires_of s) depth) (nodes_of (wires_of s))) (wires_of s).lowers (wires_of s).uppers (links_of (wires_of s))
clusters_within s depth small none l h =
    let (a, b) = ends_within s small none l h in
    (within (get_or (wires_of s).lowers l 0) a, within (get_or (wires_of s).uppers l 0) b)
  where
    within : (p : ℕ) → p < nodes_of (wires_of s) → root_at (roots_of (laid_parents (wires_of s) depth) (nodes_of (wires_of s))) p < 64
    within p h = root_within (wires_of s).neighbours (nodes_of (wires_of s)) depth p (omega arith) h
