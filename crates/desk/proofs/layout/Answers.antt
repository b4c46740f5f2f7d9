-- `layout`: the counts of what is printed are within the two buffers.
-- Assumes nothing.
use Rattle.std.proofs.Common.{sym, length-take-le}
use Rattle.commands.proofs.Buffers.{counts_within}
use Rattle.desk.proofs.layout.Goals as goal

pub slice_bounds-output-end : goal.slice_bounds-output-end
slice_bounds-output-end c = (counts_within c.layout-printed.ensures.prints).0

pub slice_bounds-print-end-2 : goal.slice_bounds-print-end-2
slice_bounds-print-end-2 c =
    sym (length-take-le _ c.layout-printed.new.output (counts_within c.layout-printed.ensures.prints).0)

pub slice_bounds-errors-end : goal.slice_bounds-errors-end
slice_bounds-errors-end c = (counts_within c.layout-printed.ensures.prints).1

pub slice_bounds-print-end-3 : goal.slice_bounds-print-end-3
slice_bounds-print-end-3 c =
    sym (length-take-le _ c.layout-printed.new.errors (counts_within c.layout-printed.ensures.prints).1)
