-- `NodeSet::size`: the ones of the mask are the members.
use borrow.Author.Rules.{rules}
use Rattle.nodeset.proofs.Marks.{size_is_ones}
use Rattle.nodeset.proofs.NodeSet.size.Goals as goal

pub returns : goal.returns
returns c = size_is_ones c.args.self.marks (search rules)
