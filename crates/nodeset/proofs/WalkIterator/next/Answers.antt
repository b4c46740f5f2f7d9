-- `next`: of a set that is not empty the lowest member is taken, and so there is one fewer.
use Rattle.nodeset.proofs.Walks.{takes, fewer}
use Rattle.nodeset.proofs.WalkIterator.next.Goals as goal

pub returns-clause-steps : goal.returns-clause-steps
returns-clause-steps c = rw (← c.self.view_is) (takes _ _ _ c.if-eq.ensures c.self.invariant c.lowest-lowest.ensures c.without_lowest-self-inside.ensures)

pub returns-clause-goes : goal.returns-clause-goes
returns-clause-goes c =
    record { on = λ _. (tt, tt, rw (← c.self.view_is) (fewer _ _ _ (takes _ _ _ c.if-eq.ensures c.self.invariant c.lowest-lowest.ensures c.without_lowest-self-inside.ensures))); keeps = tt; rests = λ _. tt }
