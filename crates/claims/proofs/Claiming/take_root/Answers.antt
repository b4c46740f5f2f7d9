-- `take_root`: where no i-th node is claimed a node is left, so the lowest unclaimed one is a node.
use Rattle.std.proofs.Common.{rules, arith}
use Rattle.laws.proofs.Choice.{picks}
use Rattle.nodeset.proofs.Marks.{member_below}
use Rattle.claims.specs.Claiming.{rooted}
use Rattle.claims.proofs.Sound.{root_left}
use Rattle.claims.proofs.Claiming.take_root.Goals as goal

pub overflow_cast-root : goal.overflow_cast-root
overflow_cast-root c =
    let left = root_left c.self.invariant c.self.view_is c.args.i c.requires c.if-self-i.true in
    omega (arith, c.lowest-root.ensures, member_below _ _ left)

pub put-requires : goal.put-requires
put-requires c =
    rw c.lowest-root.ensures (root_left c.self.invariant c.self.view_is c.args.i c.requires c.if-self-i.true)

pub returns-then-self-i-clause-rooted : goal.returns-then-self-i-clause-rooted
unfolding rooted
returns-then-self-i-clause-rooted c = rw (c.put.ensures, c.lowest-root.ensures, ← c.self.view_is) (search (rules, picks))

pub returns-else-self-i-clause-rooted : goal.returns-else-self-i-clause-rooted
unfolding rooted
returns-else-self-i-clause-rooted c = rw (← c.self.view_is) (search (rules, picks))
