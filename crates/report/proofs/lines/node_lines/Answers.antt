use Prim.Native.Nat.{ℕ, ◌+◌}
use native.Mathlib.Numerals.{add-one}
use native.Mathlib.Omega.{arith}
use mathlib.Core.Path.{◌≡◌}
use mathlib.Core.List.{List, ◌++◌}
use lib.ListN.{length-append}
use Rattle.text.proofs.Put.{put_none, put_then}
use Rattle.report.specs.Lines.{node_line_of, node_lines}
use Rattle.report.proofs.lines.node_lines.Goals as goal

one_more : (counts values : List ℕ) (n : ℕ) → node_lines counts values n ++ node_line_of counts values n ≡ node_lines counts values (n + 1)
unfolding node_lines
one_more counts values n = rw add-one

pub loop-p-init : goal.loop-p-init
unfolding node_lines
loop-p-init c = (put_none c.args.page.now c.args.at, omega arith)

pub loop-p-preserved : goal.loop-p-preserved
loop-p-preserved c =
    let state = c.args.state.now in
    let n = c.loop-p.p in
    let more = one_more state.counts state.values n in (
      rw (← more) (put_then c.loop-p.invariant.0 c.node_line-place.ensures.put),
      rw (← more) (omega (arith, length-append (node_lines state.counts state.values n) (node_line_of state.counts state.values n), c.node_line-place.ensures.short)),
    )

pub returns : goal.returns
returns c =
    let at = c.loop-p in
    let all : at.p ≡ c.args.nodes = omega arith in
    record { put = rw all at at.invariant.0; short = rw all at at.invariant.1 }
