-- `adopt`: a root is not put among its own children.
use borrow.Author.Rules.{rules}
use Rattle.laws.proofs.Choice.{picks}
use Rattle.network.specs.Sets.{adopted}
use Rattle.network.proofs.adopt.Goals as goal

pub returns-then-p-q : goal.returns-then-p-q
unfolding adopted
returns-then-p-q c = rw c.add.ensures (search (rules, picks))

pub returns-else-p-q : goal.returns-else-p-q
unfolding adopted
returns-else-p-q c = search (rules, picks)
