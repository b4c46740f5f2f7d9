use mathlib.Core.Path.{sym}
use Rattle.laws.specs.Mean.{rule_of}
use Rattle.lockstep.specs.Rounds.{lockstep_of}
use Rattle.lockstep.proofs.Rounds.{lockstep_start, rounds_more, rounds_end}
use Rattle.lockstep.proofs.values_after.Goals as goal

pub loop-init : goal.loop-init
loop-init c = sym (lockstep_start c.args.net.now)

pub loop-preserved : goal.loop-preserved
unfolding lockstep_of
loop-preserved c =
    let net = c.args.net.now in
    let at = c.loop in
    rounds_more rule_of net.neighbours net.nodes net.starts at.counter at.values c.round-values.result at.invariant c.round-values.ensures

pub returns : goal.returns
unfolding lockstep_of
returns c =
    let net = c.args.net.now in
    let at = c.loop in
    rounds_end rule_of net.neighbours net.nodes net.starts c.args.rounds at.counter at.values at.invariant at.auto.counter-end c.loop-test.false
