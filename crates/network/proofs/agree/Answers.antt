-- `agree`: the fold gathers for each place in which digits the two sets differ.
use Prim.Native.Nat.{ℕ}
use borrow.Author.Rules.{rules}
use mathlib.Core.Path.{◌∙◌, ap}
use lib.Bits.{bit_or, bit_xor}
use lib.Dec.{eqb}
use Rattle.std.proofs.lemmas.Iterator.{YieldsList-from_slice, YieldsList-from_zip}
use Rattle.std.proofs.lemmas.Iterator.Consumers.{fold_from_yields_List}
use Rattle.std.specs.List.{zip}
use Rattle.laws.proofs.Faults.{faults_xor}
use Rattle.network.specs.Valid.{agrees}
use Rattle.network.proofs.Faults.{all_gathered, both_lists}
use Rattle.network.proofs.agree.Goals as goal

pub returns : goal.returns
unfolding agrees
returns c =
    let kept = c.args.kept.now in
    let given = c.args.given.now in
    ap (λ n. eqb n 0) (fold_from_yields_List _ (λ f (x : ℕ × ℕ). bit_or f (bit_xor x.0 x.1)) _ _ c.fold-faults.ensures.ran (YieldsList-from_zip (YieldsList-from_slice kept (cc)) (YieldsList-from_slice given (cc))) (λ a x b q k. search rules))
    ∙ all_gathered (λ (x : ℕ × ℕ). bit_xor x.0 x.1) (λ x. eqb x.0 x.1) (0, 0) (λ x. faults_xor x.0 x.1) (zip kept given)
    ∙ both_lists (λ (x : ℕ × ℕ). eqb x.0 x.1) kept given 0 0 64 c.told-kept c.told-given
