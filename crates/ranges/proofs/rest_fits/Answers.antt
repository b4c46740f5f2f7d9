-- `rest_fits`: the entries before the first that is not in use may be anything.
use Rattle.ranges.proofs.Fits.{past_rest}
use Rattle.ranges.proofs.rest_fits.Goals as goal

pub returns : goal.returns
returns c = rw (c.rest_faults.ensures, c.min.ensures) (past_rest c.args.used c.args.xs.now)
