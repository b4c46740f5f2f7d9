-- `join`: the two stores are the definition's, with the six digits of one node behind those of the other.
use native.Mathlib.Omega.{arith}
use lib.Bits.{or_shifted}
use Rattle.synchronizer.specs.Wires.{joined}
use Rattle.synchronizer.proofs.wires.join.Goals as goal

pub bounds-lanes-low : goal.bounds-lanes-low
bounds-lanes-low c = omega (arith, or_shifted c.args.a 6 c.args.b c.requires.1)

pub bounds-lanes-high : goal.bounds-lanes-high
bounds-lanes-high c = omega (arith, or_shifted c.args.b 6 c.args.a c.requires.0)

pub returns : goal.returns
unfolding joined
returns c = rw (or_shifted c.args.a 6 c.args.b c.requires.1, or_shifted c.args.b 6 c.args.a c.requires.0)
