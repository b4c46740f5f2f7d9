-- `lanes_of`: one link after the other.
use Rattle.synchronizer.proofs.Directions.{lanes_start, lanes_more}
use Rattle.synchronizer.proofs.wires.lanes_of.Goals as goal

pub loop-l-init : goal.loop-l-init
loop-l-init c = lanes_start c.args.lowers.now c.args.uppers.now

pub loop-l-preserved : goal.loop-l-preserved
loop-l-preserved c = lanes_more _ _ c.loop-l.l _ _ c.loop-l.invariant c.join.ensures
