-- `lengths_fit`: the queues in use, and those past them.
use Rattle.std.proofs.Common.{rules, ◌∙◌, ◌-◌, ap, bit_or, drop, take}
use Rattle.std.specs.List.{fold}
use Rattle.ranges.proofs.Fits.{lengths_by_fold}
use Rattle.ranges.proofs.lengths_fit.Goals as goal

pub returns : goal.returns
returns c =
    let lens = c.args.lens.now in
    let cut = c.split_at.ensures in
    let long = c.length_faults.ensures ∙ ap (fold (λ f len. bit_or f (len - 2)) 0) (cut.front ∙ ap (λ n. take n lens) c.min.ensures) in
    let past = c.length_faults-2.ensures ∙ ap (fold (λ f len. bit_or f (len - 0)) 0) (cut.back ∙ ap (λ n. drop n lens) c.min.ensures) in
    rw (long, past) (lengths_by_fold c.args.links lens (search rules))
