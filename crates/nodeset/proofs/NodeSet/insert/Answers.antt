-- `NodeSet::insert`: above 63 nothing changes; any other node's mark is joined to those that are set.
use borrow.Author.Rules.{rules}
use mathlib.Core.Path.{sym}
use Rattle.nodeset.proofs.Marks.{above_63_adds_nothing, or_inserts, shifted_one}
use Rattle.nodeset.proofs.NodeSet.insert.Goals as goal

pub returns-then-node-ge64 : goal.returns-then-node-ge64
returns-then-node-ge64 c = sym (above_63_adds_nothing c.args.self.marks c.args.node (search rules))

pub returns : goal.returns
returns c =
    let node = c.args.node in
    rw (shifted_one node (search rules)) (or_inserts c.args.self.marks node (search rules))
