use native.Mathlib.Nat.{le_antisymm}
use mathlib.Core.Path.{◌∙◌}
use Rattle.network.proofs.Tables.{links_start, links_more}
use Rattle.network.proofs.Network.link_sets.Goals as goal

pub loop-l-init : goal.loop-l-init
loop-l-init c = (links_start _ _ _ _, links_start _ _ _ _)

pub loop-l-preserved : goal.loop-l-preserved
loop-l-preserved c =
    let at = c.loop-l in
    (c.link.ensures.0 ∙ links_more _ _ _ _ _ _ at.invariant.0, c.link.ensures.1 ∙ links_more _ _ _ _ _ _ at.invariant.1)

pub returns : goal.returns
returns c =
    let end = le_antisymm c.loop-l.auto.l-end c.loop-l-test.false ∙ c.min-l-end.ensures in
    (rw end at c.loop-l.invariant.0, rw end at c.loop-l.invariant.1)
