-- `fill`: the first entries of the buffer are the nodes' values, and the others are as they came.
use Prim.Native.Nat.{ℕ, ◌+◌, ◌-◌, ◌<◌, ◌≤◌}
use native.Mathlib.Omega.{arith}
use native.Mathlib.Decide.{dec_lt}
use mathlib.Core.Path.{◌≡◌, sym, ◌∙◌, ap}
use mathlib.Core.List.{List, ◌++◌}
use lib.ListN.{length, get_or, take, drop, length-append, get_or-append}
use lib.Seq.{ext_get_or}
use Rattle.std.proofs.lemmas.List.{length-drop, length-take-le, get_or-take, get_or-drop, get_or-append_right}
use Rattle.laws.specs.Below.{over_below}
use Rattle.laws.proofs.Below.{length_over, over_below_lem, over_above}
use Rattle.lockstep.proofs.fill.Goals as goal

front_over : (values out : List ℕ) (n : ℕ) → n ≤ length values → n ≤ length out → take n values ++ drop n out ≡ over_below (λ p. get_or values p 0) n out
front_over values out n h room = ext_get_or 0 (take n values ++ drop n out) (over_below value n out) (omega (arith, front, length-append (take n values) (drop n out), length-drop n out, length_over value n out)) at
  where
    value : ℕ → ℕ
    value p = get_or values p 0

    front : length (take n values) ≡ n
    front = length-take-le n values h

    at : (k : ℕ) → k < length (take n values ++ drop n out) → get_or (take n values ++ drop n out) k 0 ≡ get_or (over_below value n out) k 0
    at k l = side (dec_lt k n)
      where
        side : Dec (k < n) → get_or (take n values ++ drop n out) k 0 ≡ get_or (over_below value n out) k 0
        side (yes b) =
            get_or-append (take n values) (drop n out) 0 k (omega (arith, front))
            ∙ get_or-take n values k 0 b
            ∙ sym (over_below_lem value n out k 0 b (omega arith))
        side (no b) =
            let there : n + (k - n) ≡ k = omega arith in
            get_or-append_right (take n values) (drop n out) n k 0 front (omega arith)
            ∙ get_or-drop n out (k - n) 0
            ∙ ap (λ j. get_or out j 0) there
            ∙ sym (over_above value n out k 0 (omega arith))

pub returns : goal.returns
returns c =
    ap (λ l. l ++ drop c.args.nodes c.args.out.now) c.copy_from_slice.ensures.after
    ∙ front_over c.args.values.now c.args.out.now c.args.nodes (omega arith) (omega arith)
