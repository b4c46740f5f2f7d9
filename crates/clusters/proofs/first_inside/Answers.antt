-- `first_inside`: the first of the network's own links that passes the test.
use Rattle.std.proofs.Common.{rules}
use Rattle.laws.proofs.Chains.{found_by_find}
use Rattle.clusters.specs.Clusters.{first_inside}
use Rattle.clusters.proofs.first_inside.Goals as goal

pub returns : goal.returns
unfolding first_inside
returns c = found_by_find _ _ c.min.ensures c.find.ensures.ran (λ x b q k. search rules)
