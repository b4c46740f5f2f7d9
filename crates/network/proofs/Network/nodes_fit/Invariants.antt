-- `nodes_fit`: from the nodes in use on, what was gathered so far is 0 exactly where each node passed fits.
use mathlib.Core.Path.{◌≡◌}
use lib.Dec.{eqb}
use lib.ListN.{get_or}
use Rattle.laws.specs.Below.{all_below}
use Rattle.network.specs.Valid.{node_fits}
use Rattle.network.proofs.Network.nodes_fit.Given as goal

abbrev pub invariant-loop-p : goal.invariant-loop-p
invariant-loop-p l =
    eqb l.faults 0 ≡ all_below (λ k. node_fits l.self.nodes k (get_or l.self.parents k 0) (get_or l.self.starts k 0)) l.p
