use Prim.Native.Nat.{◌+◌, ◌*◌}
use mathlib.Core.Path.{sym, ◌∙◌, ap}
use lib.ListN.{set, get_or}
use Rattle.laws.proofs.Below.{fold_start, fold_more}
use Rattle.layout.specs.Layout.{with_fields}
use Rattle.layout.proofs.put_fields.Goals as goal

pub loop-k-init : goal.loop-k-init
unfolding with_fields
loop-k-init c = sym (fold_start _ _)

pub loop-k-preserved : goal.loop-k-preserved
unfolding with_fields
loop-k-preserved c =
    let args = c.args in
    let k = c.loop-k.k in
    let place = args.at + args.width * k in
    let value = get_or args.fields.now k 0 in
    ap (λ xs. set xs place value) c.loop-k.invariant
    ∙ sym (fold_more (λ k xs. set xs (args.at + args.width * k) (get_or args.fields.now k 0)) args.out.now k)
