-- Where counts stand: every count has a cell of its own in the array of counts.
-- Assumes nothing.
use Prim.Native.Nat.{ℕ, ◌*◌, ◌<◌}
use native.Mathlib.Omega.{arith}
use mathlib.Core.Path.{◌≡◌, sym, ◌∙◌, ap}
use lib.ListN.{length}
use Rattle.actions.specs.declared.Kind.{Kind}
use Rattle.actions.specs.Kinds.{kinds, index_of, kind_at, count, cell_of}
use Rattle.actions.proofs.Numbers.{seated}

pub cell_inside : (k : Kind) (x : ℕ) → x < 256 → cell_of (count k x) < length kinds * 256
unfolding cell_of
cell_inside k x h = omega (arith, (seated k).0)

-- two kinds at one index are one kind
pub same_index : (j k : Kind) → index_of j ≡ index_of k → j ≡ k
same_index j k e = sym (seated j).1 ∙ ap kind_at e ∙ (seated k).1

-- two counts in one cell are one count
pub same_cell : (j k : Kind) (x y : ℕ) → x < 256 → y < 256 → cell_of (count j x) ≡ cell_of (count k y) → (j ≡ k) × (x ≡ y)
unfolding cell_of
same_cell j k x y hx hy e =
    let i : index_of j ≡ index_of k = omega arith in
    (same_index j k i, omega arith)
