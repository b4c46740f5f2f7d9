-- The lines that the program prints. "Fields: nodes, links, clusters, rounds; then per node its number, outputs, inputs, value; then actions
-- taken; then answer number and place" (document 01, "The bench program").
-- Assumes nothing.
use Rattle.std.specs.Prelude.{ℕ, zero, suc, List, [], ◌∷◌, ◌++◌, get_or}
use Rattle.actions.specs.declared.Kind.{Kind}
use Rattle.actions.specs.Kinds.{count, count_in}
use Rattle.text.specs.Lines.{line}

-- `plan`
abbrev pub plan_line : ℕ → ℕ → ℕ → ℕ → List ℕ
plan_line nodes links clusters rounds = line (112 ∷ 108 ∷ 97 ∷ 110 ∷ []) (nodes ∷ links ∷ clusters ∷ rounds ∷ [])

-- `node`
abbrev pub node_line : ℕ → ℕ → ℕ → ℕ → List ℕ
node_line p outputs inputs value = line (110 ∷ 111 ∷ 100 ∷ 101 ∷ []) (p ∷ outputs ∷ inputs ∷ value ∷ [])

-- `taken`
abbrev pub taken_line : ℕ → List ℕ
taken_line taken = line (116 ∷ 97 ∷ 107 ∷ 101 ∷ 110 ∷ []) (taken ∷ [])

-- `end`
abbrev pub end_line : ℕ → ℕ → List ℕ
end_line number place = line (101 ∷ 110 ∷ 100 ∷ []) (number ∷ place ∷ [])

-- the line of node n: "Rounds started are outputs, rounds finished are inputs"
abbrev pub node_line_of : List ℕ → List ℕ → ℕ → List ℕ
node_line_of counts values n = node_line n (count_in counts (count Kind.Output n)) (count_in counts (count Kind.Input n)) (get_or values n 0)

-- the lines of the nodes below n, in rising order
unfoldable pub node_lines : List ℕ → List ℕ → ℕ → List ℕ
node_lines counts values zero = []
node_lines counts values (suc n) =
    node_lines counts values n
    ++ node_line n (count_in counts (count Kind.Output n)) (count_in counts (count Kind.Input n)) (get_or values n 0)
