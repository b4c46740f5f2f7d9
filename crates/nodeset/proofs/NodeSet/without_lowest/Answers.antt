-- `without_lowest`: the mask of a number and the number before it clears the lowest set digit.
use borrow.Author.Rules.{rules}
use Rattle.nodeset.proofs.Lowest.{wrapped_mask}
use Rattle.nodeset.proofs.NodeSet.without_lowest.Goals as goal

pub returns : goal.returns
returns c = wrapped_mask c.args.self.marks (search rules)
