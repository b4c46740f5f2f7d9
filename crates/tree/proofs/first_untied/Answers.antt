-- `first_untied`: the lowest of the network's own nodes that passes the test.
use Rattle.std.proofs.Common.{rules}
use Rattle.laws.proofs.Chains.{found_by_find}
use Rattle.tree.specs.Checks.{first_untied}
use Rattle.tree.proofs.first_untied.Goals as goal

pub returns : goal.returns
unfolding first_untied
returns c = found_by_find _ _ c.min.ensures c.find.ensures.ran (λ x b q k. search rules)
