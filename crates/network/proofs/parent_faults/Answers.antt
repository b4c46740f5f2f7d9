-- `parent_faults`: the fold gathers for each parent whether it is not below the node count.
use Prim.Native.Nat.{ℕ}
use native.Mathlib.Omega.{arith}
use borrow.Author.Rules.{rules}
use mathlib.Core.Path.{◌≡◌, ◌∙◌, ap}
use lib.Bits.{bit_or}
use lib.Dec.{ltb, leb, eqb}
use Rattle.std.specs.Int.{from_bool}
use Rattle.std.proofs.lemmas.Bool.Decides.{nat_tests}
use Rattle.std.proofs.lemmas.Iterator.{YieldsList-from_slice}
use Rattle.std.proofs.lemmas.Iterator.Consumers.{fold_from_yields_List}
use Rattle.network.proofs.Faults.{all_gathered}
use Rattle.network.proofs.parent_faults.Goals as goal

is : (nodes x : ℕ) → eqb (from_bool (leb nodes x)) 0 ≡ ltb x nodes
is nodes x = grind (arith, nat_tests)

pub returns : goal.returns
returns c =
    let nodes = c.args.nodes in
    let parents = c.args.parents.now in
    ap (λ n. eqb n 0) (fold_from_yields_List _ (λ f x. bit_or f (from_bool (leb nodes x))) _ _ c.fold.ensures.ran (YieldsList-from_slice parents c.iter.ensures.rest) (λ a x b q k. search rules))
    ∙ all_gathered (λ x. from_bool (leb nodes x)) (λ x. ltb x nodes) 0 (is nodes) parents
