-- Why a report fits a page of 2,048 bytes: a line of four numbers of at most 20 digits takes at most 89 bytes, and the line of a node, whose
-- numbers have at most five digits, 29. So 64 nodes with the lines of the plan, of those taken and of the end take at most 2,018.
-- Assumes nothing.
use Prim.Native.Nat.{ℕ, ◌*◌, ◌^◌, ◌<◌, ◌≤◌}
use native.Mathlib.Omega.{arith}
use mathlib.Core.List.{List, [], ◌∷◌, ◌++◌}
use lib.ListN.{length, length-append}
use Rattle.text.proofs.Lines.{EachBelow, line_length}
use Rattle.report.specs.Lines.{plan_line, taken_line, end_line}

pub end_short : (number place : ℕ) → number < 2 ^ 64 → place < 2 ^ 64 → length (end_line number place) ≤ 46
unfolding EachBelow
end_short number place h k =
    line_length 19 (101 ∷ 110 ∷ 100 ∷ []) (number ∷ place ∷ []) (omega arith, (omega arith, tt))

pub plan_short : (nodes links clusters rounds : ℕ) → nodes < 2 ^ 64 → links < 2 ^ 64 → clusters < 2 ^ 64 → rounds < 2 ^ 64 → length (plan_line nodes links clusters rounds) ≤ 89
unfolding EachBelow
plan_short nodes links clusters rounds hn hl hc hr =
    line_length 19 (112 ∷ 108 ∷ 97 ∷ 110 ∷ []) (nodes ∷ links ∷ clusters ∷ rounds ∷ []) (omega arith, (omega arith, (omega arith, (omega arith, tt))))

pub run_short : (nodes : ℕ) (plan lines : List ℕ) (taken number place : ℕ) → nodes ≤ 64 → taken < 2 ^ 64 → number < 2 ^ 64 → place < 2 ^ 64 → length plan ≤ 89 → length lines ≤ 29 * nodes → length (plan ++ lines ++ taken_line taken ++ end_line number place) ≤ 2048
unfolding EachBelow
run_short nodes plan lines taken number place hn ht hm hp hl h =
    omega (
      arith,
      length-append (plan ++ lines ++ taken_line taken) (end_line number place),
      length-append (plan ++ lines) (taken_line taken),
      length-append plan lines,
      line_length 19 (116 ∷ 97 ∷ 107 ∷ 101 ∷ 110 ∷ []) (taken ∷ []) (omega arith, tt),
      end_short number place hm hp,
    )
