-- `link_sets`: after l links each table holds each place's set over the first l links.
use mathlib.Core.Path.{◌≡◌}
use Rattle.laws.specs.Below.{list_below}
use Rattle.network.specs.Sets.{link_set}
use Rattle.network.proofs.Network.link_sets.Given as goal

abbrev pub invariant-loop-l : goal.invariant-loop-l
invariant-loop-l l =
    (l.neighbours ≡ list_below (link_set l.self.lowers l.self.uppers l.self.flags 0 l.l) 64)
    × (l.preferred ≡ list_below (link_set l.self.lowers l.self.uppers l.self.flags 1 l.l) 64)
