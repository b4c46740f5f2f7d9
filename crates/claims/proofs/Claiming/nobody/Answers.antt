-- `nobody`: all nodes are unclaimed.
use Rattle.claims.specs.Claiming.{nobody}
use Rattle.claims.proofs.Sound.{nobody_sound}
use Rattle.claims.proofs.Claiming.nobody.Goals as goal

pub invariant_of-result : goal.invariant_of-result
unfolding nobody
invariant_of-result c = rw (← c.all_nodes.ensures) at (nobody_sound c.args.nodes c.requires)

pub returns : goal.returns
unfolding nobody
returns c = rw (← c.all_nodes.ensures)
