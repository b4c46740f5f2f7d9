-- Worked values of checks 6 and 7: what the definitions answer on small plans, and on the longest chains.
-- Assumes nothing.
use Prim.Native.Nat.{◌-◌, ◌+◌, min}
use mathlib.Core.Path.{◌≡◌, refl}
use mathlib.Core.List.{[], ◌∷◌}
use Rattle.laws.specs.Choice.{if_b, if_lt, if_eq}
use Rattle.laws.specs.Below.{first_of, list_below}
use Rattle.network.specs.declared.Network.{Network}
use Rattle.links.specs.Links.{pair_is, joins, link_between, has_link}
use Rattle.links.proofs.Worked.{network}
use Rattle.tree.specs.Climb.{root_from, depth_from, depth_of}
use Rattle.tree.specs.Checks.{untied, first_untied, first_lost}

-- "Two linked nodes, each the other's parent: 7, place 0"
abbrev pair : Network
pair = network (1 ∷ 0 ∷ []) (0 ∷ []) (1 ∷ []) (0 ∷ [])

pair_is_tied : first_untied pair ≡ 2
unfolding first_untied untied first_of if_b if_lt if_eq has_link link_between joins pair_is
pair_is_tied = refl

pair_is_lost : first_lost pair ≡ 0
unfolding first_lost root_from first_of if_b if_lt if_eq
pair_is_lost = refl

-- a root needs no link; node 1 has none to its parent, node 2's parent is no node
untied_nodes : first_untied (network (0 ∷ 0 ∷ 9 ∷ []) [] [] []) ≡ 1
unfolding first_untied untied first_of if_b if_lt if_eq has_link link_between joins pair_is
untied_nodes = refl

no_such_parent : first_untied (network (0 ∷ 1 ∷ 9 ∷ []) [] [] []) ≡ 2
unfolding first_untied untied first_of if_b if_lt if_eq has_link link_between joins pair_is
no_such_parent = refl

-- node 1 only leads into the ring of 2 and 3
into_a_ring : first_lost (network (0 ∷ 2 ∷ 3 ∷ 2 ∷ []) [] [] []) ≡ 1
unfolding first_lost root_from first_of if_b if_lt if_eq
into_a_ring = refl

-- "A chain of 64 nodes is accepted", with the root at either end
downward : first_lost (network (list_below (λ p. p - 1) 64) [] [] []) ≡ 64
unfolding first_lost root_from first_of if_b if_lt if_eq list_below
downward = refl

upward : first_lost (network (list_below (λ p. min (p + 1) 63) 64) [] [] []) ≡ 64
unfolding first_lost root_from first_of if_b if_lt if_eq list_below
upward = refl

-- the far end of such a chain lies 63 below the root
deepest : depth_of (λ p. p - 1) 64 63 ≡ 63
unfolding depth_of depth_from if_b if_eq
deepest = refl
