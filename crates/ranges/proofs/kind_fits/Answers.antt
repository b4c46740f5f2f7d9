-- `kind_fits`: the body's length says whether the kind counts by node or by direction.
use Rattle.std.proofs.Common.{rules}
use Rattle.laws.proofs.Choice.{if_eq_yes, if_eq_no}
use Rattle.ranges.proofs.Fits.{row_by_fold}
use Rattle.ranges.proofs.kind_fits.Goals as goal

pub returns-then-body-eq1 : goal.returns-then-body-eq1
returns-then-body-eq1 c =
    let a = c.args in
    rw (c.excess.ensures, if_eq_yes a.body 1 a.nodes.now a.lanes.now c.if-body-eq1.true) (row_by_fold _ _ (search rules) (search rules))

pub returns-else-body-eq1 : goal.returns-else-body-eq1
returns-else-body-eq1 c =
    let a = c.args in
    rw (c.excess-else-body-eq1.ensures, if_eq_no a.body 1 a.nodes.now a.lanes.now c.if-body-eq1.false) (row_by_fold _ _ (search rules) (search rules))
