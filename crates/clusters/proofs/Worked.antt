-- Worked values of checks 8 and 9 and of the number of clusters.
-- Assumes nothing.
use Prim.Native.Nat.{ℕ}
use mathlib.Core.Path.{◌≡◌, refl}
use mathlib.Core.List.{List, [], ◌∷◌}
use Rattle.laws.specs.Choice.{if_b, if_lt, if_eq, both}
use Rattle.laws.specs.Below.{first_of, count_below, sum_below, over_below}
use Rattle.network.specs.declared.Network.{Network}
use Rattle.links.specs.Links.{pair_is, joins}
use Rattle.links.proofs.Worked.{network}
use Rattle.tree.specs.Climb.{root_from}
use Rattle.clusters.specs.Clusters.{roots_of, root_at, chosen, inside, first_inside, preferred_between, not_one, first_not_one, cluster_count}

-- "Plan T: two roots, .. one link"
abbrev plan_T : Network
plan_T = network (0 ∷ 1 ∷ []) (0 ∷ []) (1 ∷ []) (1 ∷ [])

T-has-none-inside : first_inside plan_T ≡ 1
unfolding first_inside inside roots_of over_below root_at root_from first_of both if_b if_lt if_eq
T-has-none-inside = refl

T-has-one : first_not_one plan_T ≡ 1
unfolding first_not_one not_one preferred_between count_below sum_below roots_of over_below chosen joins pair_is root_at root_from first_of both if_b if_lt if_eq
T-has-one = refl

T-has-two-clusters : cluster_count plan_T ≡ 2
unfolding cluster_count count_below sum_below if_b
T-has-two-clusters = refl

-- path 0-1-2 with root 1, its second link preferred
inside_a_cluster : first_inside (network (1 ∷ 1 ∷ 1 ∷ []) (0 ∷ 1 ∷ []) (1 ∷ 2 ∷ []) (0 ∷ 1 ∷ [])) ≡ 1
unfolding first_inside inside roots_of over_below root_at root_from first_of both if_b if_lt if_eq
inside_a_cluster = refl

-- clusters {0, 3} with root 3 and {1, 2} with root 1: the links 0-1 and 2-3 join the same two clusters, from either side
abbrev two_by_two : List ℕ → Network
two_by_two flags = network (3 ∷ 1 ∷ 1 ∷ 3 ∷ []) (0 ∷ 0 ∷ 1 ∷ 2 ∷ []) (1 ∷ 3 ∷ 2 ∷ 3 ∷ []) flags

none_preferred : first_not_one (two_by_two (0 ∷ 0 ∷ 0 ∷ 0 ∷ [])) ≡ 0
unfolding first_not_one not_one preferred_between count_below sum_below roots_of over_below chosen joins pair_is root_at root_from first_of both if_b if_lt if_eq
none_preferred = refl

one_preferred : first_not_one (two_by_two (0 ∷ 0 ∷ 0 ∷ 1 ∷ [])) ≡ 4
unfolding first_not_one not_one preferred_between count_below sum_below roots_of over_below chosen joins pair_is root_at root_from first_of both if_b if_lt if_eq
one_preferred = refl

both_preferred : first_not_one (two_by_two (1 ∷ 0 ∷ 0 ∷ 1 ∷ [])) ≡ 0
unfolding first_not_one not_one preferred_between count_below sum_below roots_of over_below chosen joins pair_is root_at root_from first_of both if_b if_lt if_eq
both_preferred = refl
