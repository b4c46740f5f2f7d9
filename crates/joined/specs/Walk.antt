-- How the walk of check 10 keeps its two sets: the nodes reached, and those of them that are still to visit. Only the inner functions' contracts
-- cite this; the answer is `first_unjoined`.
-- Assumes nothing.
use Rattle.std.specs.Prelude.{ℕ, List, get_or}
use Rattle.laws.specs.Choice.{if_b, if_lt, if_eq}
use Rattle.laws.specs.Below.{fold_below}
use Rattle.nodeset.specs.Marks.{member, inserted, removed}
use Rattle.joined.specs.declared.Walk.{Walk}

-- the walk whose two sets have these marks
abbrev pub walk : ℕ → ℕ → Walk
walk reached todo = record { reached = record { marks = reached }; todo = record { marks = todo } }

-- q is marked as reached and as still to visit
abbrev pub marked : ℕ → Walk → Walk
marked q w = walk (inserted w.reached.marks q) (inserted w.todo.marks q)

-- q is met: a node that was not reached yet is marked in both sets
unfoldable pub met_of : ℕ → ℕ → Walk → Walk
met_of nodes q w = if_lt q nodes (if_b (member w.reached.marks q) w (marked q w)) w

-- the other end of a link (a, b) of p is met
unfoldable pub crossed_of : ℕ → ℕ → ℕ → ℕ → Walk → Walk
crossed_of nodes p a b w = if_eq a p (met_of nodes b w) (if_eq b p (met_of nodes a w) w)

-- the other end of every link of p is met
unfoldable pub visited_of : List ℕ → List ℕ → ℕ → ℕ → ℕ → Walk → Walk
visited_of lowers uppers links nodes p w =
    fold_below (λ l. crossed_of nodes p (get_or lowers l 0) (get_or uppers l 0)) w links

-- p is no longer to visit
abbrev pub taken_of : ℕ → Walk → Walk
taken_of p w = walk w.reached.marks (removed w.todo.marks p)
