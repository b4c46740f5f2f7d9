-- `links_stand`: from the links in use on, what was gathered so far is 0 exactly where each link passed stands.
use mathlib.Core.Path.{◌≡◌}
use lib.Dec.{eqb}
use Rattle.laws.specs.Below.{all_below}
use Rattle.network.specs.Valid.{link_stands}
use Rattle.network.proofs.Network.links_stand.Given as goal

abbrev pub invariant-loop-l : goal.invariant-loop-l
invariant-loop-l l =
    eqb l.faults 0 ≡ all_below (link_stands l.self.nodes l.self.links l.self.lowers l.self.uppers l.self.flags) l.l
