-- `counts_fit`: each kind is held against the limits of the nodes or of the directions.
use Rattle.std.proofs.Common.{rules, ◌≡◌, ◌/◌, ◌∙◌, ap, length}
use Rattle.std.specs.Simd.{first_chunks}
use Rattle.ranges.proofs.Fits.{rows_are_counts}
use Rattle.ranges.proofs.counts_fit.Goals as goal

pub returns : goal.returns
returns c =
    let a = c.args in
    let long : length a.counts.now ≡ 5120 = search rules in
    let rows = c.as_chunks.ensures.front ∙ ap (λ n. first_chunks 256 (n / 256) a.counts.now) long in
    c.rows_fit.ensures ∙ rw (c.limits-of_nodes.ensures, c.limits-of_lanes.ensures, c.bodies-bodies.ensures, rows) (rows_are_counts a.nodes a.links a.rounds a.counts.now long)
