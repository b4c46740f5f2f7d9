-- `effect`: each arm has the definition's stores.
use mathlib.Core.Logic.{inl, inr}
use mathlib.Core.Path.{ap, ap₂}
use lib.ListN.{set}
use Rattle.synchronizer.specs.After.{effect_in}
use Rattle.synchronizer.proofs.State.effect.Goals as goal

pub returns-in-Starts : goal.returns-in-Starts
unfolding effect_in
returns-in-Starts c = elim c.in-Starts.is [ inl e ↦ rw e | inr e ↦ rw e ]

pub returns-in-SendsPacket : goal.returns-in-SendsPacket
unfolding effect_in
returns-in-SendsPacket c = rw c.in-SendsPacket.is (ap (λ u. record c.args.self.now { queues = u }) c.send.ensures)

pub returns-in-SendsAck : goal.returns-in-SendsAck
unfolding effect_in
returns-in-SendsAck c = rw c.in-SendsAck.is (ap (λ u. record c.args.self.now { queues = u }) c.send-in-SendsAck.ensures)

pub returns-in-TakesPacket : goal.returns-in-TakesPacket
unfolding effect_in
returns-in-TakesPacket c =
    rw c.in-TakesPacket.is
    (ap₂ (λ u slots. record c.args.self.now { queues = u; slots = slots }) c.deliver.ensures.left c.deliver.ensures.heard)

pub returns-in-TakesAck : goal.returns-in-TakesAck
unfolding effect_in
returns-in-TakesAck c = rw c.in-TakesAck.is (ap (λ u. record c.args.self.now { queues = u }) c.pop.ensures)

pub returns-in-Means : goal.returns-in-Means
unfolding effect_in
returns-in-Means c =
    let s = c.args.self.now in
    rw c.in-Means.is (ap (λ v. record s { values = set s.values c.args.p v }) c.mean_heard.ensures)
