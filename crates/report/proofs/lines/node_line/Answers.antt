-- `node_line`: a node number and three u16 have at most five digits each.
use native.Mathlib.Omega.{arith}
use mathlib.Core.List.{[], ◌∷◌}
use lib.ListN.{get_or}
use Rattle.text.proofs.Lines.{EachBelow, line_length}
use Rattle.report.proofs.lines.node_line.Goals as goal

pub returns-clause-short : goal.returns-clause-short
unfolding EachBelow
returns-clause-short c =
    let state = c.args.state.now in
    rw (← c.cell.ensures.is, ← c.cell-2.ensures.is)
    (line_length 4 (110 ∷ 111 ∷ 100 ∷ 101 ∷ []) (c.args.p ∷ get_or state.counts c.cell.result 0 ∷ get_or state.counts c.cell-2.result 0 ∷ get_or state.values c.args.p 0 ∷ [])
    (omega arith, (omega arith, (omega arith, (omega arith, tt)))))
