-- `NodeSet::lowest`: below the count of trailing zeros every mark is 0, and the mark there is 1 unless the set is empty.
use Rattle.nodeset.proofs.Marks.{lowest_is_trailing}
use Rattle.nodeset.proofs.NodeSet.lowest.Goals as goal

pub returns : goal.returns
returns c = lowest_is_trailing c.args.self.marks
