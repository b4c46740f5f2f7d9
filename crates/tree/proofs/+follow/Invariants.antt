-- `follow`: the steps left are the measure, so the walk ends whatever the parents are.
use Rattle.tree.proofs.+follow.Given as goal

abbrev pub decreases-follow : goal.decreases-follow
decreases-follow l = l.left
