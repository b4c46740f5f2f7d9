-- `child_sets`: after q nodes the table holds each place's children among the first q nodes.
use mathlib.Core.Path.{◌≡◌}
use Rattle.laws.specs.Below.{list_below}
use Rattle.network.specs.Sets.{child_set}
use Rattle.network.proofs.Network.child_sets.Given as goal

abbrev pub invariant-loop-q : goal.invariant-loop-q
invariant-loop-q l = l.sets ≡ list_below (child_set l.fn.self.parents l.q) 64
