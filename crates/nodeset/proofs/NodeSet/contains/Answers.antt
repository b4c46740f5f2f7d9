-- `NodeSet::contains`: above 63 there is no member; below, the digit that the shift brings to the front is the node's mark.
use borrow.Author.Rules.{rules}
use Rattle.laws.proofs.Choice.{picks, tests}
use Rattle.nodeset.specs.Marks.{digit, member}
use Rattle.nodeset.proofs.NodeSet.contains.Goals as goal

pub returns-then-node-lt64 : goal.returns-then-node-lt64
unfolding member digit
returns-then-node-lt64 c = search (rules, picks)

pub returns-else-node-lt64 : goal.returns-else-node-lt64
unfolding member digit
returns-else-node-lt64 c = search (rules, picks, tests)
