-- `step`: the node in turn is the i-th where the root, if one was needed, is taken; it claims above the depth asked for.
use Rattle.std.proofs.Common.{rules}
use Rattle.laws.proofs.Choice.{picks}
use Rattle.claims.specs.Claiming.{spread, step}
use Rattle.claims.proofs.Claiming.step.Goals as goal

pub returns-then-deep-depth : goal.returns-then-deep-depth
unfolding step spread
returns-then-deep-depth c =
    rw (c.claim_each.ensures, ← c.take_root.ensures.rooted, ← c.self.view_is) (search (rules, picks))

pub returns-else-deep-depth : goal.returns-else-deep-depth
unfolding step spread
returns-else-deep-depth c = rw (← c.take_root.ensures.rooted, ← c.self.view_is) (search (rules, picks))
