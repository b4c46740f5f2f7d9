-- `Network::with_sets`: the lists are as they were, and each table is what its loop gives.
use Rattle.network.specs.Sets.{with_sets}
use Rattle.network.proofs.Network.with_sets.Goals as goal

pub returns : goal.returns
unfolding with_sets
returns c =
    let sets = c.link_sets.ensures in
    rw (c.child_sets.ensures, sets.0, sets.1)
