-- `first_flags`: the flags of the links passed are those of the first links, and the table stands as after them.
use mathlib.Core.Path.{◌≡◌}
use lib.ListN.{replicate}
use Rattle.laws.specs.Below.{over_below}
use Rattle.clusters.specs.Clusters.{cluster_at}
use Rattle.layout.specs.FirstLinks.{first_flag}
use Rattle.layout.proofs.Flags.{Met}
use Rattle.layout.proofs.first_flags.Given as goal

abbrev pub invariant-loop-l : goal.invariant-loop-l
invariant-loop-l l =
    Met (cluster_at l.roots l.net.lowers) (cluster_at l.roots l.net.uppers) l.l l.met
    × (l.flags ≡ over_below (first_flag (cluster_at l.roots l.net.lowers) (cluster_at l.roots l.net.uppers)) l.l (replicate 128 0))
