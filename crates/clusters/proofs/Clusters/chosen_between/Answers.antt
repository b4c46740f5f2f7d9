-- `chosen_between`: how many links pass the test.
use Rattle.std.proofs.Common.{rules}
use Rattle.laws.proofs.Chains.{count_by_filter}
use Rattle.clusters.specs.Clusters.{preferred_between}
use Rattle.clusters.proofs.Clusters.chosen_between.Goals as goal

pub returns : goal.returns
unfolding preferred_between
returns c = count_by_filter c.min.ensures c.count.ensures.ran c.filter.ensures.source c.filter.ensures.closure (λ x b q k. search rules)
