-- `limits`: the places in use are written over a row of zeros.
use Rattle.std.proofs.Common.{rules}
use Rattle.ranges.proofs.Fits.{limits_written}
use Rattle.ranges.proofs.limits.Goals as goal

pub returns : goal.returns
returns c = limits_written c.args.used c.args.most c.min.result c.fill.new.self c.min.ensures (search rules)
