-- `by_record`: 17 by the network and the state handed in; else over the wires that the network gives.
use mathlib.Core.Path.{sym, ◌∙◌}
use Rattle.synchronizer.proofs.Ranges.{valid_there, action_answers, action_17}
use Rattle.synchronizer.proofs.State.by_record.Goals as goal

pub returns-then-not-in_range : goal.returns-then-not-in_range
returns-then-not-in_range c = action_17 _ _ (sym c.in_range.ensures ∙ c.if-not-in_range.true) _

pub of-requires : goal.of-requires
of-requires c = valid_there _ _ (sym c.in_range.ensures ∙ c.if-not-in_range.false)

pub returns : goal.returns
returns c =
    let net = c.args.net.now in
    let there = sym c.in_range.ensures ∙ c.if-not-in_range.false in
    action_answers net _ there _ _ (rw c.of.ensures at c.turn.ensures)
