-- `end_only`: the line is never longer than its page, which holds it whole.
use native.Mathlib.Omega.{arith}
use mathlib.Core.Path.{sym, ◌∙◌, ap}
use lib.ListN.{length}
use Rattle.report.proofs.Pages.{all_of_it, stands_there}
use Rattle.report.proofs.Short.{end_short}
use Rattle.report.proofs.end_only.Goals as goal

pub slice_bounds-whole-end : goal.slice_bounds-whole-end
slice_bounds-whole-end c =
    let short = end_short c.args.number c.args.place (omega (arith, c.ranges.number)) (omega (arith, c.ranges.place)) in
    all_of_it c.end_line-count.ensures short ∙ sym (ap length (stands_there c.end_line-count.ensures short))

pub returns : goal.returns
returns c =
    let short = end_short c.args.number c.args.place (omega (arith, c.ranges.number)) (omega (arith, c.ranges.place)) in
    let shown = rw (stands_there c.end_line-count.ensures short) at c.whole.ensures in
    record { count = shown.count; held = shown.held; at_most = short }
