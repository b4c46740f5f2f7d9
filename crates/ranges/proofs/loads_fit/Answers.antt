-- `loads_fit`: a value stands beside a packet only.
use Rattle.std.proofs.Common.{rules}
use Rattle.ranges.proofs.Fits.{loads_by_fold}
use Rattle.ranges.proofs.loads_fit.Goals as goal

pub returns : goal.returns
returns c = rw c.load_faults.ensures (loads_by_fold _ _ (search rules) (search rules))
