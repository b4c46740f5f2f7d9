use borrow.Author.Rules.{rules}
use native.Mathlib.Omega.{arith}
use native.Mathlib.Nat.{le_antisymm}
use mathlib.Core.Path.{◌≡◌, ◌∙◌, ap}
use lib.ListN.{length, take}
use Rattle.std.proofs.lemmas.List.{length-take-le, get_or-take}
use Rattle.network.specs.Sets.{adopted}
use Rattle.network.proofs.Tables.{children_start, children_more}
use Rattle.network.proofs.Network.child_sets.Goals as goal

pub loop-q-init : goal.loop-q-init
loop-q-init c = children_start _

pub loop-q-preserved : goal.loop-q-preserved
loop-q-preserved c =
    let parents = c.args.self.now.parents in
    let used : length (take c.min.result parents) ≡ c.min.result = length-take-le c.min.result parents (search rules) in
    c.adopt.ensures
    ∙ ap (λ p. adopted c.loop-q.sets p c.loop-q.q) (get_or-take c.min.result parents c.loop-q.q 0 (omega arith))
    ∙ children_more parents _ _ c.loop-q.invariant

pub returns : goal.returns
returns c =
    let used = length-take-le c.min.result c.args.self.now.parents (search rules) in
    rw (le_antisymm c.loop-q.auto.q-end c.loop-q-test.false ∙ used ∙ c.min.ensures) at c.loop-q.invariant
