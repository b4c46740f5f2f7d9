-- `mean_heard`: each turn fills in the next member, and at the end nobody is left to pass; the mean looks at the members alone.
use borrow.Author.Rules.{rules}
use lib.ListN.{length-set}
use mathlib.Core.Path.{◌∙◌, ap}
use Rattle.nodeset.proofs.Members.{values_same}
use Rattle.nodeset.proofs.Walks.{fill_start, fill_taken, fill_end}
use Rattle.laws.specs.Mean.{rule_of}
use Rattle.lockstep.specs.Rule.{mean_of}
use Rattle.synchronizer.specs.After.{mean_heard}
use Rattle.synchronizer.proofs.State.mean_heard.Goals as goal

pub loop-q-init : goal.loop-q-init
loop-q-init c =
    rw (c.into_iter-q-iterator.ensures.into_iter_gives, c.members-q-items.ensures) (search rules, fill_start _ _ _)

pub loop-q-preserved : goal.loop-q-preserved
loop-q-preserved c =
    (simp length-set (search rules), fill_taken _ _ _ _ _ _ _ c.in-Some.ensures.steps (search rules) (search rules) c.loop-q.invariant.1)

pub returns : goal.returns
unfolding mean_heard mean_of
returns c =
    rw (← c.neighbours-set.ensures)
    (c.mean.ensures ∙ ap (rule_of _) (values_same _ _ _ (fill_end _ _ c.loop-q.q-iterator _ c.in-None.ensures.steps.0 c.loop-q.invariant.1)))
