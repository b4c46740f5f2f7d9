-- `has_link`: some link passes the test exactly where the first that does stands below their number.
use Rattle.std.proofs.Common.{rules}
use Rattle.laws.proofs.Chains.{some_by_any}
use Rattle.links.specs.Links.{link_between, has_link}
use Rattle.links.proofs.has_link.Goals as goal

pub returns : goal.returns
unfolding has_link link_between
returns c = some_by_any _ _ c.min.ensures c.any.ensures.ran (λ x b q k. search rules)
