-- Worked values of check 10, and the order in which its walk visits.
-- Assumes nothing.
use Prim.Native.Nat.{ℕ, zero, suc}
use mathlib.Core.Path.{◌≡◌, refl}
use mathlib.Core.List.{List, [], ◌∷◌}
use Rattle.laws.specs.Choice.{if_b, if_lt, if_eq}
use Rattle.laws.specs.Below.{fold_below, first_of}
use Rattle.nodeset.specs.Marks.{digit, member, inserted, removed, lowest_of}
use Rattle.links.proofs.Worked.{network}
use Rattle.joined.specs.declared.Walk.{Walk}
use Rattle.joined.specs.Joined.{follow, across, pass, joined_marks, first_unjoined}
use Rattle.joined.specs.Walk.{met_of, crossed_of, visited_of}
use Rattle.joined.proofs.Walking.{start_of, turned_of}

-- "Two roots, no link: 10, place 1"
two_roots : first_unjoined (network (0 ∷ 1 ∷ []) [] [] []) ≡ 1
unfolding first_unjoined joined_marks pass across follow fold_below first_of member inserted digit if_b if_lt
two_roots = refl

-- the links 0-3, 1-2, 1-3 join all of four nodes, against the order of the list
all_joined : first_unjoined (network (0 ∷ 1 ∷ 2 ∷ 3 ∷ []) (0 ∷ 1 ∷ 1 ∷ []) (3 ∷ 2 ∷ 3 ∷ []) (0 ∷ 0 ∷ 0 ∷ [])) ≡ 4
unfolding first_unjoined joined_marks pass across follow fold_below first_of member inserted digit if_b if_lt
all_joined = refl

-- without the last of them 1 and 2 are joined to each other only
two_parts : first_unjoined (network (0 ∷ 1 ∷ 2 ∷ 3 ∷ []) (0 ∷ 1 ∷ []) (3 ∷ 2 ∷ []) (0 ∷ 0 ∷ [])) ≡ 1
unfolding first_unjoined joined_marks pass across follow fold_below first_of member inserted digit if_b if_lt
two_parts = refl

-- ---- "lowest number first"

-- the first n nodes that a walk over the links visits
visits : List ℕ → List ℕ → ℕ → ℕ → ℕ → Walk → List ℕ
visits lowers uppers links nodes zero w = []
visits lowers uppers links nodes (suc n) w =
    lowest_of w.todo.marks ∷ visits lowers uppers links nodes n (turned_of lowers uppers links nodes (lowest_of w.todo.marks) w)

-- the links 0-3, 0-4, 1-3, 2-4: node 1 is reached after 4 and visited before it (a queue would visit 0 3 4 1 2, a stack 0 4 2 3 1)
lowest_first : visits (0 ∷ 0 ∷ 1 ∷ 2 ∷ []) (3 ∷ 4 ∷ 3 ∷ 4 ∷ []) 4 5 5 start_of ≡ 0 ∷ 3 ∷ 1 ∷ 4 ∷ 2 ∷ []
unfolding visits visited_of crossed_of met_of fold_below first_of lowest_of member inserted removed digit if_b if_lt if_eq
lowest_first = refl

all_five_joined : first_unjoined (network (0 ∷ 1 ∷ 2 ∷ 3 ∷ 4 ∷ []) (0 ∷ 0 ∷ 1 ∷ 2 ∷ []) (3 ∷ 4 ∷ 3 ∷ 4 ∷ []) (0 ∷ 0 ∷ 0 ∷ 0 ∷ [])) ≡ 5
unfolding first_unjoined joined_marks pass across follow fold_below first_of member inserted digit if_b if_lt
all_five_joined = refl
