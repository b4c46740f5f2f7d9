use borrow.Author.Rules.{rules}
use Rattle.laws.proofs.Faults.{faults_more, faults_end}
use Rattle.network.proofs.Links.{stands_past}
use Rattle.network.proofs.Network.links_stand.Goals as goal

pub loop-l-init : goal.loop-l-init
loop-l-init c = c.link_faults-faults.ensures

pub loop-l-preserved : goal.loop-l-preserved
loop-l-preserved c =
    let at = c.loop-l in
    let self = c.args.self.now in
    faults_more _ at.l at.faults _ at.invariant (stands_past self.nodes self.links self.lowers self.uppers self.flags at.l at.auto.l)

pub returns : goal.returns
returns c =
    let at = c.loop-l in
    faults_end _ 128 at.l at.faults at.invariant (search rules) (search rules)
