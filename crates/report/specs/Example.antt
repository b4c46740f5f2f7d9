-- Document 01's example of the bench program. `proofs/Example.antt` computes it.
-- Assumes nothing.
use Rattle.std.specs.Prelude.{ℕ, List, [], ◌∷◌, ◌++◌}

-- "Input: `01 00 01 02 00 00 00 64 00 10 00 15 00 18 00 1F 00 22 00 23 00`"
unfoldable pub example : List ℕ
example = 1 ∷ 0 ∷ 1 ∷ 2 ∷ 0 ∷ 0 ∷ 0 ∷ 100 ∷ 0 ∷ 16 ∷ 0 ∷ 21 ∷ 0 ∷ 24 ∷ 0 ∷ 31 ∷ 0 ∷ 34 ∷ 0 ∷ 35 ∷ 0 ∷ []

-- "Output, whole": `plan 1 0 1 1`, `node 0 1 1 100`, `taken 6`, `end 0 21`
unfoldable pub output : List ℕ
output =
    (112 ∷ 108 ∷ 97 ∷ 110 ∷ 32 ∷ 49 ∷ 32 ∷ 48 ∷ 32 ∷ 49 ∷ 32 ∷ 49 ∷ 10 ∷ [])
    ++ (110 ∷ 111 ∷ 100 ∷ 101 ∷ 32 ∷ 48 ∷ 32 ∷ 49 ∷ 32 ∷ 49 ∷ 32 ∷ 49 ∷ 48 ∷ 48 ∷ 10 ∷ [])
    ++ (116 ∷ 97 ∷ 107 ∷ 101 ∷ 110 ∷ 32 ∷ 54 ∷ 10 ∷ [])
    ++ (101 ∷ 110 ∷ 100 ∷ 32 ∷ 48 ∷ 32 ∷ 50 ∷ 49 ∷ 10 ∷ [])

-- Plan P with 4 rounds, an output of node 0, and a second one that is refused. Nodes, links, clusters and rounds all differ, and so do node 0's
-- outputs and inputs: a text with two of them exchanged is another.
unfoldable pub halfway : List ℕ
halfway =
    (1 ∷ 0 ∷ 4 ∷ 2 ∷ 0 ∷ 1 ∷ 0 ∷ 0 ∷ 2 ∷ 1 ∷ 1 ∷ 0 ∷ 10 ∷ 2 ∷ 2 ∷ 1 ∷ 0 ∷ 5 ∷ [])
    ++ (3 ∷ 0 ∷ 1 ∷ 0 ∷ 3 ∷ 1 ∷ 2 ∷ 0 ∷ 0 ∷ 16 ∷ 0 ∷ 16 ∷ 0 ∷ [])

-- `plan 3 2 1 4`, `node 0 1 0 0`, `node 1 0 0 10`, `node 2 0 0 5`, `taken 1`, `end 16 29`
unfoldable pub halfway_text : List ℕ
halfway_text =
    (112 ∷ 108 ∷ 97 ∷ 110 ∷ 32 ∷ 51 ∷ 32 ∷ 50 ∷ 32 ∷ 49 ∷ 32 ∷ 52 ∷ 10 ∷ [])
    ++ (110 ∷ 111 ∷ 100 ∷ 101 ∷ 32 ∷ 48 ∷ 32 ∷ 49 ∷ 32 ∷ 48 ∷ 32 ∷ 48 ∷ 10 ∷ [])
    ++ (110 ∷ 111 ∷ 100 ∷ 101 ∷ 32 ∷ 49 ∷ 32 ∷ 48 ∷ 32 ∷ 48 ∷ 32 ∷ 49 ∷ 48 ∷ 10 ∷ [])
    ++ (110 ∷ 111 ∷ 100 ∷ 101 ∷ 32 ∷ 50 ∷ 32 ∷ 48 ∷ 32 ∷ 48 ∷ 32 ∷ 53 ∷ 10 ∷ [])
    ++ (116 ∷ 97 ∷ 107 ∷ 101 ∷ 110 ∷ 32 ∷ 49 ∷ 10 ∷ [])
    ++ (101 ∷ 110 ∷ 100 ∷ 32 ∷ 49 ∷ 54 ∷ 32 ∷ 50 ∷ 57 ∷ 10 ∷ [])
