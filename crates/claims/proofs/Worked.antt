-- Worked layouts: the parents that the loop comes to on small networks, each node's neighbours given by their marks.
-- Assumes nothing.
use Prim.Native.Nat.{ℕ}
use mathlib.Core.Path.{◌≡◌, refl}
use mathlib.Core.List.{List, [], ◌∷◌}
use lib.ListN.{take}
use Rattle.laws.specs.Choice.{if_b, if_lt, if_eq}
use Rattle.laws.specs.Below.{fold_below, first_of, sum_below, count_below}
use Rattle.nodeset.specs.Marks.{digit, member, inserted, removed, size_of, lowest_of}
use Rattle.claims.specs.Claiming.{put, all_nodes, nobody, rooted, claims_each, claims_all, spread, step, claim_all, parents_of}

-- the parents of n nodes with these neighbours, for this depth
parents_for : List ℕ → ℕ → ℕ → List ℕ
unfolding parents_of claim_all step spread claims_all claims_each rooted nobody all_nodes put fold_below first_of sum_below count_below if_b if_lt if_eq digit member inserted removed size_of lowest_of
parents_for sets n depth = take n (parents_of sets n depth)

-- T: 0-1
abbrev sets_T : List ℕ
sets_T = 2 ∷ 1 ∷ []

T-at-0 : parents_for sets_T 2 0 ≡ 0 ∷ 1 ∷ []
unfolding parents_for
T-at-0 = refl

T-at-1 : parents_for sets_T 2 1 ≡ 0 ∷ 0 ∷ []
unfolding parents_for
T-at-1 = refl

T-at-63 : parents_for sets_T 2 63 ≡ 0 ∷ 0 ∷ []
unfolding parents_for
T-at-63 = refl

-- the path 0-1-2-3-4
abbrev sets_P : List ℕ
sets_P = 2 ∷ 5 ∷ 10 ∷ 20 ∷ 8 ∷ []

P-at-1 : parents_for sets_P 5 1 ≡ 0 ∷ 0 ∷ 2 ∷ 2 ∷ 4 ∷ []
unfolding parents_for
P-at-1 = refl

P-at-2 : parents_for sets_P 5 2 ≡ 0 ∷ 0 ∷ 1 ∷ 3 ∷ 3 ∷ []
unfolding parents_for
P-at-2 = refl

-- K: 0-1 0-2 1-5 2-3 3-4 4-5. Node 5 is claimed before node 3, so at depth 3 it claims node 4
abbrev sets_K : List ℕ
sets_K = 6 ∷ 33 ∷ 9 ∷ 20 ∷ 40 ∷ 18 ∷ []

K-at-2 : parents_for sets_K 6 2 ≡ 0 ∷ 0 ∷ 0 ∷ 2 ∷ 4 ∷ 1 ∷ []
unfolding parents_for
K-at-2 = refl

K-at-3 : parents_for sets_K 6 3 ≡ 0 ∷ 0 ∷ 0 ∷ 2 ∷ 5 ∷ 1 ∷ []
unfolding parents_for
K-at-3 = refl

-- H: 0-1 0-2 1-6 2-3 3-4 4-6 5-6
abbrev sets_H : List ℕ
sets_H = 6 ∷ 65 ∷ 9 ∷ 20 ∷ 72 ∷ 64 ∷ 50 ∷ []

H-at-1 : parents_for sets_H 7 1 ≡ 0 ∷ 0 ∷ 0 ∷ 3 ∷ 3 ∷ 5 ∷ 5 ∷ []
unfolding parents_for
H-at-1 = refl

H-at-3 : parents_for sets_H 7 3 ≡ 0 ∷ 0 ∷ 0 ∷ 2 ∷ 6 ∷ 6 ∷ 1 ∷ []
unfolding parents_for
H-at-3 = refl

-- G: 0-3 0-4 1-2 1-4 2-3 2-4 3-5 4-5
G-at-1 : parents_for (24 ∷ 20 ∷ 26 ∷ 37 ∷ 39 ∷ 24 ∷ []) 6 1 ≡ 0 ∷ 1 ∷ 1 ∷ 0 ∷ 0 ∷ 5 ∷ []
unfolding parents_for
G-at-1 = refl
