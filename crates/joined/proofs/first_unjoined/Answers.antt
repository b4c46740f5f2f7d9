-- `first_unjoined`: the lowest of the network's own nodes that is not among the joined ones.
use Rattle.std.proofs.Common.{rules}
use Rattle.laws.proofs.Chains.{found_by_find}
use Rattle.joined.specs.Joined.{first_unjoined}
use Rattle.joined.proofs.first_unjoined.Goals as goal

pub returns : goal.returns
unfolding first_unjoined
returns c = found_by_find _ _ c.min.ensures c.find.ensures.ran (λ x b q k. search rules)
