-- `node_lines`: the lines of the nodes before this one are written one behind the other, and take at most 29 bytes each.
use Prim.Native.Nat.{◌*◌, ◌≤◌}
use lib.ListN.{length}
use Rattle.text.specs.Put.{Put}
use Rattle.report.specs.Lines.{node_lines}
use Rattle.report.proofs.lines.node_lines.Given as goal

abbrev pub invariant-loop-p : goal.invariant-loop-p
invariant-loop-p l =
    Put l.initial.page l.at (node_lines l.state.counts l.state.values l.p) l.place l.page
    × (length (node_lines l.state.counts l.state.values l.p) ≤ 29 * l.p)
