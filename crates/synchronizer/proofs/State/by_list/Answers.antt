-- `by_list`: 17 by the network and the state handed in; else over the wires that the network gives.
use mathlib.Core.Path.{sym, ◌∙◌}
use Rattle.synchronizer.proofs.Ranges.{valid_there, list_answers, list_17}
use Rattle.synchronizer.proofs.State.by_list.Goals as goal

pub returns-then-not-in_range : goal.returns-then-not-in_range
returns-then-not-in_range c = list_17 _ _ (sym c.in_range.ensures ∙ c.if-not-in_range.true) _

pub of-requires : goal.of-requires
of-requires c = valid_there _ _ (sym c.in_range.ensures ∙ c.if-not-in_range.false)

pub returns : goal.returns
returns c =
    let net = c.args.net.now in
    let there = sym c.in_range.ensures ∙ c.if-not-in_range.false in
    list_answers net _ there _ _ (rw c.of.ensures at c.go_through.ensures)
