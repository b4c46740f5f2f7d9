-- `children_have`: every member passes the test exactly where the word came from every child.
use Prim.Native.Nat.{ℕ}
use borrow.Author.Rules.{rules}
use mathlib.Core.Path.{◌∙◌, ap}
use lib.Dec.{ltb}
use Rattle.actions.specs.Kinds.{count, count_in}
use Rattle.counts.specs.Counts.{children_have}
use Rattle.nodeset.specs.Marks.{all_in}
use Rattle.nodeset.proofs.Listed.{all_from_members}
use Rattle.counts.proofs.children_have.Goals as goal

pub returns : goal.returns
unfolding children_have
returns c =
    let test = λ (q : ℕ). ltb c.args.n (count_in c.args.counts.now (count c.args.word q)) in
    all_from_members _ _ test (λ q f' k. search rules) (λ q f' k. search rules) _ _ _ c.all.ensures.ran ∙ ap (all_in test) c.members.ensures
