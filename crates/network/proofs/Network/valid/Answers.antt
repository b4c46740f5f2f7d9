-- `Network::valid`: the tests are the definition's, in its order; within the limits both counts fit into a byte.
use native.Mathlib.Omega.{arith}
use mathlib.Core.Path.{sym, ◌∙◌}
use Rattle.std.proofs.lemmas.Bool.Decides.{nat_tests}
use Rattle.laws.specs.Choice.{both, if_b}
use Rattle.laws.proofs.Choice.{true_not_false}
use Rattle.network.specs.Valid.{valid_network}
use Rattle.network.proofs.Valid.{limits_of_lem}
use Rattle.network.proofs.Network.valid.Goals as goal
use Rattle.network.proofs.Network.valid.Goals.{then-within_limits, else-within_limits}

pub nodes_fit-requires : goal.nodes_fit-requires
nodes_fit-requires c = (limits_of_lem c.args.self (sym c.if-within_limits.ensures)).at_most_64_nodes

pub links_stand-requires : goal.links_stand-requires
links_stand-requires c =
    elim c.if-within_limits.branch [
      | then-within_limits w ↦ let limits = limits_of_lem c.args.self (sym w.if-within_limits.ensures) in (limits.at_most_64_nodes, limits.at_most_128_links)
      | else-within_limits w ↦ absurd (true_not_false _ c.if-nodes_fit.true (w.value-is ∙ w.if-within_limits.false))
    ]

pub returns-then-links_stand : goal.returns-then-links_stand
unfolding valid_network both if_b
returns-then-links_stand c = grind (arith, nat_tests)

pub returns-else-links_stand : goal.returns-else-links_stand
unfolding valid_network both if_b
returns-else-links_stand c = grind (arith, nat_tests)
