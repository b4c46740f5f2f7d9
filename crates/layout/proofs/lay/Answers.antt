-- `lay`: parents by the claims, flags by the clusters that these give, both put over a copy of the plan's bytes.
use Prim.Native.Nat.{min}
use native.Mathlib.Omega.{arith}
use mathlib.Core.Path.{◌≡◌, ◌∙◌, ap, ap₂}
use Rattle.std.proofs.Common.{◌<◌, sym, subst}
use Rattle.links.specs.Links.{nodes_of}
use Rattle.clusters.specs.Clusters.{roots_of, cluster_at}
use Rattle.claims.specs.Claiming.{parents_of}
use Rattle.layout.specs.Layout.{laid_parents}
use Rattle.layout.proofs.Refusals.{steps_lay}
use Rattle.layout.proofs.lay.Goals as goal
use Rattle.layout.proofs.lay.Goals.{After-root_table}

parents-are : (c : After-root_table) → c.parents-parents.result ≡ laid_parents c.args.plan.network c.args.depth
parents-are c =
    let net = c.args.plan.network in
    let count : min c.min-nodes.result 64 ≡ nodes_of net = omega (arith, c.min-nodes.ensures) in
    c.parents-parents.ensures ∙ ap (λ n. parents_of net.neighbours n c.args.depth) count

roots-are : (c : After-root_table) → c.root_table.result ≡ roots_of (laid_parents c.args.plan.network c.args.depth) (nodes_of c.args.plan.network)
roots-are c =
    let count : min c.min-nodes.result 64 ≡ nodes_of c.args.plan.network = omega (arith, c.min-nodes.ensures) in
    c.root_table.ensures ∙ ap₂ roots_of (parents-are c) count

pub first_flags-flags-requires : goal.first_flags-flags-requires
first_flags-flags-requires c l h =
    let net = c.args.plan.network in
    subst (λ roots. (cluster_at roots net.lowers l < 64) × (cluster_at roots net.uppers l < 64)) (sym (roots-are (goal.at.first_flags-flags-requires c).After-root_table)) (c.requires.clustered l h)

pub returns : goal.returns
returns c =
    steps_lay c.args.bytes.now c.args.out.now c.args.plan.taken c.args.depth c.args.plan.network c.min-nodes.ensures c.min-links.ensures (omega arith) (omega arith) c.requires.there c.requires.fits (parents-are (goal.at.returns c).After-root_table) (roots-are (goal.at.returns c).After-root_table) c.first_flags-flags.ensures c.copy.ensures c.put_fields.ensures c.put_fields-2.ensures
