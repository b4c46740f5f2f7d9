use borrow.Author.Rules.{rules}
use native.Mathlib.Omega.{arith}
use mathlib.Core.Path.{◌≡◌, sym, refl, ap, ◌∙◌}
use lib.Dec.{eqb}
use Rattle.laws.proofs.Faults.{faults_start, faults_more, faults_end}
use Rattle.network.proofs.Links.{none, last, stands_after}
use Rattle.network.specs.Valid.{link_fits, rises}
use Rattle.laws.specs.Choice.{both}
use Rattle.laws.proofs.Choice.{both_on, both_off}
use Rattle.network.proofs.Faults.{unfaulted}
use lib.ListN.{get_or}
use Rattle.network.proofs.Network.link_faults.Goals as goal
use Rattle.network.proofs.Network.link_faults.Goals.{then-link_fits, else-link_fits}

pub loop-l-init : goal.loop-l-init
loop-l-init c = (faults_start _, none refl refl refl)

pub loop-l-preserved : goal.loop-l-preserved
loop-l-preserved c =
    let at = c.loop-l in
    let self = c.args.self.now in
    let stands = stands_after self.nodes self.links self.lowers self.uppers self.flags at.l at.a at.b at.invariant.1 (search rules) in
    let s : c.if-link_fits.stands ≡ both (link_fits self.nodes (get_or self.lowers at.l 0) (get_or self.uppers at.l 0) (get_or self.flags at.l 0)) (rises at.a at.b (get_or self.lowers at.l 0) (get_or self.uppers at.l 0)) = elim c.if-link_fits.branch [ then-link_fits w ↦ both_on _ _ _ (sym w.if-link_fits.ensures) (w.stands-is ∙ w.pair_rises-stands.ensures) | else-link_fits w ↦ both_off _ _ _ (sym w.if-link_fits.ensures) (w.stands-is ∙ w.if-link_fits.false) ] in
    (faults_more _ at.l at.faults _ at.invariant.0 (ap (λ n. eqb n 0) c.from-faults.ensures ∙ unfaulted c.if-link_fits.stands ∙ s ∙ stands), last at.l (omega arith) refl refl)

pub returns : goal.returns
returns c =
    let at = c.loop-l in
    faults_end _ _ at.l at.faults at.invariant.0 (search rules) (search rules)
