-- `Wires::of`: a network within its ranges fits the tables; the directions are those of its links.
use mathlib.Core.Path.{ap}
use Rattle.synchronizer.specs.Wires.{wires, wires_of}
use Rattle.synchronizer.proofs.Ranges.{nodes_fit, links_fit, parents_fit, lowers_fit, uppers_fit}
use Rattle.synchronizer.proofs.wires.Wires.of.Goals as goal

pub lanes_of-lanes-requires : goal.lanes_of-lanes-requires
lanes_of-lanes-requires c =
    let net = c.args.net.now in
    (links_fit net c.requires, lowers_fit net c.requires, uppers_fit net c.requires)

pub invariant_of-result : goal.invariant_of-result
invariant_of-result c = (nodes_fit c.args.net.now c.requires, parents_fit c.args.net.now c.requires)

pub returns : goal.returns
unfolding wires_of
returns c =
    let net = c.args.net.now in
    ap (λ lanes. wires net.nodes net.rounds net.parents lanes net.neighbours net.children net.preferred) c.lanes_of-lanes.ensures
