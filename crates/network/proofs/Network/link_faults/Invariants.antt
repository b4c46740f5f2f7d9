-- `link_faults`: what was gathered over the links so far is 0 exactly where each stands, and (a, b) is the last of them.
use mathlib.Core.Path.{◌≡◌}
use lib.Dec.{eqb}
use Rattle.laws.specs.Below.{all_below}
use Rattle.network.specs.Valid.{link_stands}
use Rattle.network.proofs.Links.{Before}
use Rattle.network.proofs.Network.link_faults.Given as goal

abbrev pub invariant-loop-l : goal.invariant-loop-l
invariant-loop-l l =
    (eqb l.faults 0 ≡ all_below (link_stands l.self.nodes l.self.links l.self.lowers l.self.uppers l.self.flags) l.l) × Before l.self.lowers l.self.uppers l.l l.a l.b
