-- `plan_line`: four numbers of 64 bits.
use native.Mathlib.Omega.{arith}
use Rattle.clusters.specs.Clusters.{cluster_count}
use Rattle.report.proofs.Short.{plan_short}
use Rattle.report.proofs.lines.plan_line.Goals as goal

pub returns-clause-short : goal.returns-clause-short
returns-clause-short c =
    let net = c.args.net.now in
    plan_short net.nodes net.links (cluster_count net) net.rounds (omega arith) (omega arith) (omega (arith, c.count-clusters.ensures)) (omega arith)
