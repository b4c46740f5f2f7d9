-- `root_in`: the entries in use say of each node what the whole list says, and the steps left start at their number.
use Prim.Native.Nat.{min}
use Rattle.std.proofs.Common.{◌≡◌, ◌∙◌, ap, arith, length, take, length-take}
use Rattle.std.proofs.lemmas.List.{get_or-take}
use Rattle.tree.specs.Climb.{parent_in, root_from}
use Rattle.tree.proofs.Turn.{root_same}
use Rattle.tree.proofs.root_in.Goals as goal

pub returns : goal.returns
returns c =
    let args = c.args in
    let nodes = min args.nodes 64 in
    let used = take c.min.result args.parents.now in
    let many : length used ≡ nodes = omega (arith, length-take c.min.result args.parents.now, c.min.ensures, c.told-parents) in
    let read = root_same (parent_in used) (parent_in args.parents.now) nodes (λ q h. get_or-take c.min.result args.parents.now q 0 (omega (arith, h, c.min.ensures))) in
    c.follow.ensures ∙ ap (λ k. root_from (parent_in used) k k args.p) many ∙ read nodes args.p
