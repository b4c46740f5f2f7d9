-- `main`: what `trial` answers is within the page.
-- Assumes nothing.
use Rattle.std.proofs.Common.{sym, length-take-le}
use Rattle.report.proofs.Printed.{answer_within}
use Rattle.bench.proofs.main.Goals as goal

pub slice_bounds-page-end : goal.slice_bounds-page-end
slice_bounds-page-end c = answer_within c.trial-written.ensures

pub slice_bounds-write_all-end : goal.slice_bounds-write_all-end
slice_bounds-write_all-end c =
    sym (length-take-le c.trial-written.result c.trial-written.new.out (answer_within c.trial-written.ensures))
