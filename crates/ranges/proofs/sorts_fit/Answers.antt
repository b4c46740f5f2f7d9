-- `sorts_fit`: place by place, whether it holds a message.
use Rattle.std.proofs.Common.{rules}
use Rattle.ranges.proofs.Fits.{sorts_by_fold}
use Rattle.ranges.proofs.sorts_fit.Goals as goal

pub returns : goal.returns
returns c = rw (c.sort_faults.ensures, c.places.ensures) (sorts_by_fold _ _ (search rules))
