-- `all_nodes`: one node inserted after the other.
use Rattle.std.proofs.Common.{rules, ◌∙◌, ap, refl}
use Rattle.laws.proofs.Chains.{fold_by_fold}
use Rattle.nodeset.specs.declared.NodeSet.{NodeSet}
use Rattle.nodeset.specs.Marks.{inserted}
use Rattle.claims.proofs.Marks.{marks_of_all}
use Rattle.claims.proofs.all_nodes.Goals as goal

pub returns : goal.returns
returns c =
    ap (λ (s : NodeSet). s.marks) (fold_by_fold {h = λ p s. record { marks = inserted s.marks p }} refl c.fold.ensures.ran (λ a x b q k. (search rules, ap (λ m. record { marks = m }) (search rules))))
    ∙ marks_of_all c.args.nodes
