-- `mean`: at most 65,535 for the node itself and for each of at most 64 neighbours fits a u32, and the share of each fits a u16.
use native.Mathlib.Omega.{arith}
use Rattle.nodeset.proofs.Members.{size_at_most_64}
use Rattle.lockstep.proofs.Rule.{mean_by_marks}
use Rattle.lockstep.proofs.mean.Goals as goal

pub overflow_add-sum : goal.overflow_add-sum
overflow_add-sum c = omega (arith, size_at_most_64 c.args.set.marks)

pub overflow_add-count : goal.overflow_add-count
overflow_add-count c = omega (arith, size_at_most_64 c.args.set.marks)

pub share-requires : goal.share-requires
share-requires c = omega (arith, size_at_most_64 c.args.set.marks)

pub returns : goal.returns
returns c =
    let start = c.args in
    rw (mean_by_marks start.set.marks start.own start.heard.now) (cc)
