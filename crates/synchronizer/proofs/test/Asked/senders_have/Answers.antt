-- `senders_have`: every member passes the test exactly where the word came from every sender.
use Prim.Native.Nat.{ℕ}
use borrow.Author.Rules.{rules}
use mathlib.Core.Path.{◌∙◌, ap}
use lib.Dec.{ltb}
use Rattle.actions.specs.Kinds.{count, count_in}
use Rattle.nodeset.specs.Marks.{all_in}
use Rattle.nodeset.proofs.Listed.{all_from_members}
use Rattle.synchronizer.specs.Wires.{lane_in}
use Rattle.synchronizer.specs.Answer.{senders_have}
use Rattle.synchronizer.proofs.test.Asked.senders_have.Goals as goal

pub returns : goal.returns
unfolding senders_have
returns c =
    let a = c.args.self.now in
    let test = λ (q : ℕ). ltb c.taken-n.result (count_in a.state.now.counts (count c.args.word (lane_in a.wires.now.lanes q a.p))) in
    rw (← c.taken-n.ensures)
    (all_from_members _ _ test (λ q f' k. search rules) (λ q f' k. search rules) _ _ _ c.all.ensures.ran ∙ ap (all_in test) c.members.ensures)
