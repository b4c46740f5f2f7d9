-- The table of directions, one link after the other.
-- Assumes nothing.
use Prim.Native.Nat.{ℕ, ◌+◌}
use mathlib.Core.Path.{◌≡◌, sym, ◌∙◌, ap}
use mathlib.Core.List.{List}
use lib.ListN.{get_or, replicate}
use Rattle.laws.proofs.Below.{fold_start, fold_more}
use Rattle.synchronizer.specs.Wires.{joined, lanes_of}

module _ (lowers uppers : List ℕ) where
  pub lanes_start : replicate 4096 0 ≡ lanes_of lowers uppers 0
  unfolding lanes_of
  lanes_start = sym (fold_start (λ l lanes. joined lanes (get_or lowers l 0) (get_or uppers l 0) l) (replicate 4096 0))

  pub lanes_more : (l : ℕ) (lanes more : List ℕ) → lanes ≡ lanes_of lowers uppers l → more ≡ joined lanes (get_or lowers l 0) (get_or uppers l 0) l → more ≡ lanes_of lowers uppers (l + 1)
  unfolding lanes_of
  lanes_more l lanes more e j =
      j ∙ ap (λ t. joined t (get_or lowers l 0) (get_or uppers l 0) l) e
      ∙ sym (fold_more (λ i t. joined t (get_or lowers i 0) (get_or uppers i 0) i) (replicate 4096 0) l)
