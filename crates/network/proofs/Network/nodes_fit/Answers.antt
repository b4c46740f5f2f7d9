use borrow.Author.Rules.{rules}
use mathlib.Core.Path.{refl, sym, ◌∙◌, ap}
use lib.Dec.{eqb}
use lib.ListN.{get_or}
use Rattle.laws.proofs.Choice.{if_lt_no}
use Rattle.laws.proofs.Faults.{faults_or, faults_more, faults_end}
use Rattle.network.proofs.Faults.{parents_in_use}
use Rattle.network.specs.Valid.{node_fits}
use Rattle.network.proofs.Network.nodes_fit.Goals as goal

pub loop-p-init : goal.loop-p-init
loop-p-init c =
    let self = c.args.self.now in
    c.parent_faults-faults.ensures ∙ parents_in_use self.nodes self.parents self.starts (search rules)

pub loop-p-preserved : goal.loop-p-preserved
unfolding node_fits
loop-p-preserved c =
    let at = c.loop-p in
    let self = c.args.self.now in
    let start = get_or self.starts at.p 0 in
    faults_more _ at.p at.faults _ at.invariant (faults_or c.from.result start _ _ (ap (λ n. eqb n 0) c.from.ensures) refl ∙ sym (if_lt_no at.p self.nodes _ _ at.auto.p))

pub returns : goal.returns
returns c =
    let at = c.loop-p in
    faults_end _ 64 at.p at.faults at.invariant (search rules) (search rules)
