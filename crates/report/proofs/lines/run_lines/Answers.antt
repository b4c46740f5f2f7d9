-- `run_lines`: four writes, each where the one before it stopped; together they fit a page.
use Prim.Native.Nat.{◌+◌}
use native.Mathlib.Omega.{arith}
use Rattle.text.proofs.Put.{put_then}
use Rattle.clusters.specs.Clusters.{cluster_count}
use Rattle.report.specs.Lines.{plan_line, node_lines}
use Rattle.report.specs.Report.{run_text}
use Rattle.report.proofs.Short.{run_short}
use Rattle.report.proofs.lines.run_lines.Goals as goal

pub returns-clause-put : goal.returns-clause-put
unfolding run_text
returns-clause-put c =
    put_then (put_then (put_then c.plan_line-planned.ensures.put c.node_lines-listed.ensures.put) c.taken_line-counted.ensures) c.end_line.ensures

pub returns-clause-short : goal.returns-clause-short
unfolding run_text
returns-clause-short c =
    let net = c.args.net.now in
    let ran = c.args.ran.now in
    run_short net.nodes (plan_line net.nodes net.links (cluster_count net) net.rounds) (node_lines ran.state.counts ran.state.values net.nodes) ran.taken ran.answer (c.args.from + ran.place) c.requires.nodes (omega arith) (omega arith) (omega arith) c.plan_line-planned.ensures.short c.node_lines-listed.ensures.short
