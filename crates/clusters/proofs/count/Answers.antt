-- `count`: how many of the network's own nodes are their own parents.
use Rattle.std.proofs.Common.{rules}
use Rattle.laws.proofs.Chains.{count_by_filter}
use Rattle.clusters.specs.Clusters.{cluster_count}
use Rattle.clusters.proofs.count.Goals as goal

pub returns : goal.returns
unfolding cluster_count
returns c = count_by_filter c.min.ensures c.count.ensures.ran c.filter.ensures.source c.filter.ensures.closure (λ x b q k. search rules)
