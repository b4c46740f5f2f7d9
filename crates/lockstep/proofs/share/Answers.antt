-- `share`: twice the remainder beside the count says on which side of the half the quotient lies.
use native.Mathlib.Omega.{arith}
use Rattle.std.proofs.lemmas.Bool.Decides.{nat_tests}
use Rattle.laws.specs.Choice.{if_b, if_lt, if_eq}
use Rattle.laws.specs.Mean.{share_of}
use Rattle.lockstep.proofs.share.Goals as goal

pub returns : goal.returns
unfolding share_of if_lt if_eq if_b
returns c = grind (arith, nat_tests)
