-- `visit`: one link crossed after the other.
use Rattle.std.proofs.Common.{rules}
use Rattle.laws.proofs.Chains.{fold_by_fold}
use Rattle.joined.specs.Walk.{visited_of}
use Rattle.joined.proofs.Walk.visit.Goals as goal

pub returns : goal.returns
unfolding visited_of
returns c = fold_by_fold c.min.ensures c.fold.ensures.ran (λ a x b q k. search rules)
