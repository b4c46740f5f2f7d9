-- `root_table`: the list of what each of the 64 places leads to.
use Rattle.std.proofs.Common.{rules, ◌∙◌, arith}
use Rattle.laws.proofs.Chains.{list_by_from_fn}
use Rattle.clusters.proofs.Roots.{table_listed}
use Rattle.clusters.proofs.root_table.Goals as goal

pub returns : goal.returns
returns c = list_by_from_fn (λ x b q k. search rules) 0 c.from_fn.ensures.items ∙ table_listed _ _ (omega arith)
