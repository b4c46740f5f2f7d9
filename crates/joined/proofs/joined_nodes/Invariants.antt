-- `joined_nodes`: the walk stands as `WalkingIn` says at every turn, and what lies ahead of it falls. The next to visit is one of those still to
-- visit, whichever it is. When no node is left to visit, the reached nodes are the joined ones.
use Rattle.links.specs.Links.{nodes_of, links_of}
use Rattle.joined.proofs.Walking.{WalkingIn, Idle, ahead}
use Rattle.joined.proofs.joined_nodes.Given as goal

abbrev pub invariant-loop-walk : goal.invariant-loop-walk
invariant-loop-walk l = WalkingIn l.net.lowers l.net.uppers (links_of l.net) (nodes_of l.net) Idle l.walk

abbrev pub decreases-loop-walk : goal.decreases-loop-walk
decreases-loop-walk l = ahead l.walk
