-- `add`: a number above 63 has no set; any other's set gets one more member.
use borrow.Author.Rules.{rules}
use Rattle.laws.proofs.Choice.{picks}
use Rattle.network.specs.Sets.{added}
use Rattle.network.proofs.add.Goals as goal

pub returns-then-at-lt64 : goal.returns-then-at-lt64
unfolding added
returns-then-at-lt64 c = rw c.insert.ensures (search (rules, picks))

pub returns-else-at-lt64 : goal.returns-else-at-lt64
unfolding added
returns-else-at-lt64 c = search (rules, picks)
