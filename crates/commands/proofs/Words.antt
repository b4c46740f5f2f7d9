-- The same bytes one by one are the same list: so an argument is a word exactly if it is spelt as the word is.
-- Assumes nothing.
use Prim.Native.Nat.{ℕ}
use mathlib.Core.Path.{◌≡◌, refl, sym, ap₂, subst}
use mathlib.Core.Bool.{true}
use mathlib.Core.List.{List, [], ◌∷◌}
use Rattle.std.specs.Prelude.{Some, None}
use lib.Dec.{eqb}
use borrow.Author.Tests.{eqb-true, eq-eqb}
use Rattle.laws.proofs.Choice.{if_b_yes, if_b_no, both_yes, both_left, both_right, not_true_false, true_not_false}
use Rattle.commands.specs.declared.Word.{Word}
use Rattle.commands.specs.Words.{same_bytes, layout_word, word_of}

same_refl : (xs : List ℕ) → same_bytes xs xs ≡ true
unfolding same_bytes
same_refl [] = refl
same_refl (x ∷ xs) = both_yes (eqb x x) (same_bytes xs xs) (eq-eqb x x refl) (same_refl xs)

same_equal : (xs ys : List ℕ) → same_bytes xs ys ≡ true → xs ≡ ys
unfolding same_bytes
same_equal [] [] e = refl
same_equal [] (y ∷ ys) e = absurd (true_not_false true refl (sym e))
same_equal (x ∷ xs) [] e = absurd (true_not_false true refl (sym e))
same_equal (x ∷ xs) (y ∷ ys) e =
    ap₂ (λ z zs. z ∷ zs) (eqb-true x y (both_left (eqb x y) (same_bytes xs ys) e)) (same_equal xs ys (both_right (eqb x y) (same_bytes xs ys) e))

module _ (bytes : List ℕ) where
  pub is_layout : bytes ≡ layout_word → Some Word.Layout ≡ word_of bytes
  unfolding word_of
  is_layout e =
      sym (if_b_yes (same_bytes bytes layout_word) (Some Word.Layout) None (subst (λ w. same_bytes bytes w ≡ true) e (same_refl bytes)))

  pub is_unknown : (bytes ≡ layout_word → ⊥) → None ≡ word_of bytes
  unfolding word_of
  is_unknown other =
      sym (if_b_no (same_bytes bytes layout_word) (Some Word.Layout) None (not_true_false (same_bytes bytes layout_word) (λ e. other (same_equal bytes layout_word e))))
