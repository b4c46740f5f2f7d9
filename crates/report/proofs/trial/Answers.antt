-- `trial`: the text is never longer than the page, so the page holds it whole, and whole it is handed over or not at all.
use native.Mathlib.Omega.{arith}
use mathlib.Core.Path.{sym, ◌∙◌, ap}
use lib.ListN.{length}
use Rattle.report.proofs.Pages.{all_of_it, stands_there}
use Rattle.report.proofs.trial.Goals as goal

pub slice_bounds-whole-end : goal.slice_bounds-whole-end
slice_bounds-whole-end c =
    let wrote = c.write_page-count.ensures in
    all_of_it wrote.put wrote.short ∙ sym (ap length (stands_there wrote.put wrote.short))

pub returns : goal.returns
returns c =
    let wrote = c.write_page-count.ensures in
    let shown = rw (stands_there wrote.put wrote.short) at c.whole.ensures in
    record { count = shown.count; held = shown.held; at_most_2048 = wrote.short; small = λ k. omega (arith, c.shared_slice_known-1.given k) }
