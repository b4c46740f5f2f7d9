use mathlib.Core.Path.{sym, ◌∙◌}
use Rattle.laws.proofs.Below.{over_start, over_more, over_end}
use Rattle.laws.specs.Mean.{rule_of}
use Rattle.lockstep.specs.Rounds.{next_by, round_by}
use Rattle.lockstep.proofs.Rounds.{mean_is_next}
use Rattle.lockstep.proofs.round.Goals as goal

pub loop-p-init : goal.loop-p-init
loop-p-init c =
    let start = c.args in
    sym (over_start (next_by rule_of start.net.now.neighbours start.values.now) start.values.now)

pub loop-p-preserved : goal.loop-p-preserved
loop-p-preserved c =
    let start = c.args in
    let at = c.loop-p in
    over_more (next_by rule_of start.net.now.neighbours start.values.now) at.p at.next start.values.now c.mean.result at.invariant (c.mean.ensures ∙ mean_is_next start.net.now.neighbours start.values.now at.p)

pub returns : goal.returns
unfolding round_by
returns c =
    let start = c.args in
    let at = c.loop-p in
    over_end (next_by rule_of start.net.now.neighbours start.values.now) start.net.now.nodes at.p at.next start.values.now at.invariant at.auto.p-end c.loop-p-test.false
