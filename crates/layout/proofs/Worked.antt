-- Worked layouts, computed on the definitions: parents and flags from the wire list alone, and plan T's bytes with the answers at each limit.
-- Assumes nothing.
use Prim.Native.Nat.{ℕ, zero, suc}
use mathlib.Core.Path.{◌≡◌, refl, ap}
use mathlib.Core.List.{List, [], ◌∷◌, ◌++◌}
use lib.ListN.{length, take, replicate}
use Rattle.laws.specs.Choice.{if_b, if_lt, if_eq}
use Rattle.laws.specs.Below.{fold_below, first_of, sum_below, count_below, over_below, list_below}
use Rattle.nodeset.specs.Marks.{digit, member, inserted, removed, size_of, lowest_of}
use Rattle.network.specs.Sets.{towards, link_gives, link_set, with_sets}
use Rattle.network.specs.Valid.{rises}
use Rattle.network.specs.Zeros.{zero_network}
use Rattle.records.specs.Record.{body_length, record_at, read_at}
use Rattle.records.specs.Rules.{rounds_rule, node_rule, follows_of, link_rule, end_rule}
use Rattle.records.specs.Reader.{rounds_added, node_added, link_added, turn, lists_from, lists_of}
use Rattle.links.specs.Links.{pair_is, joins}
use Rattle.links.proofs.Worked.{network}
use Rattle.tree.specs.Climb.{root_from}
use Rattle.clusters.specs.Clusters.{roots_of, root_at}
use Rattle.joined.specs.Joined.{follow, across, pass, joined_marks, first_unjoined}
use Rattle.claims.specs.Claiming.{put, all_nodes, nobody, rooted, claims_each, claims_all, spread, step, claim_all, parents_of}
use Rattle.layout.specs.FirstLinks.{first_flag}
use Rattle.layout.specs.Layout.{layout_of, laid_parents, first_flags, laid_flags, copied, with_fields, with_parents, with_flags, laid_over, laid_in}

-- the parents of n nodes and the flags of their links, for a depth
abbrev Shape : Type 0
Shape = ℕ → ℕ → List ℕ × List ℕ

laid_for : List ℕ → List ℕ → Shape
unfolding with_sets link_set link_gives towards list_below parents_of claim_all step spread claims_all claims_each rooted nobody all_nodes put fold_below first_of sum_below count_below if_b if_lt if_eq digit member inserted removed size_of lowest_of first_flags first_flag roots_of root_at root_from over_below joins pair_is
laid_for lowers uppers n depth =
    let net = with_sets (network (replicate n 0) lowers uppers []) in
    (take n (laid_parents net depth), take (length lowers) (laid_flags net depth))

-- T: 0-1
abbrev shape_T : Shape
shape_T = laid_for (0 ∷ []) (1 ∷ [])

T-at-0 : shape_T 2 0 ≡ (0 ∷ 1 ∷ [], 1 ∷ [])
unfolding laid_for
T-at-0 = refl

T-at-63 : shape_T 2 63 ≡ (0 ∷ 0 ∷ [], 0 ∷ [])
unfolding laid_for
T-at-63 = refl

-- the path 0-1-2-3-4
abbrev shape_P : Shape
shape_P = laid_for (0 ∷ 1 ∷ 2 ∷ 3 ∷ []) (1 ∷ 2 ∷ 3 ∷ 4 ∷ [])

P-at-1 : shape_P 5 1 ≡ (0 ∷ 0 ∷ 2 ∷ 2 ∷ 4 ∷ [], 0 ∷ 1 ∷ 0 ∷ 1 ∷ [])
unfolding laid_for
P-at-1 = refl

P-at-2 : shape_P 5 2 ≡ (0 ∷ 0 ∷ 1 ∷ 3 ∷ 3 ∷ [], 0 ∷ 0 ∷ 1 ∷ 0 ∷ [])
unfolding laid_for
P-at-2 = refl

-- K: 0-1 0-2 1-5 2-3 3-4 4-5. Node 5 is claimed before node 3, so at depth 3 it claims node 4
abbrev shape_K : Shape
shape_K = laid_for (0 ∷ 0 ∷ 1 ∷ 2 ∷ 3 ∷ 4 ∷ []) (1 ∷ 2 ∷ 5 ∷ 3 ∷ 4 ∷ 5 ∷ [])

K-at-2 : shape_K 6 2 ≡ (0 ∷ 0 ∷ 0 ∷ 2 ∷ 4 ∷ 1 ∷ [], 0 ∷ 0 ∷ 0 ∷ 0 ∷ 1 ∷ 0 ∷ [])
unfolding laid_for
K-at-2 = refl

K-at-3 : shape_K 6 3 ≡ (0 ∷ 0 ∷ 0 ∷ 2 ∷ 5 ∷ 1 ∷ [], 0 ∷ 0 ∷ 0 ∷ 0 ∷ 0 ∷ 0 ∷ [])
unfolding laid_for
K-at-3 = refl

-- H: 0-1 0-2 1-6 2-3 3-4 4-6 5-6
abbrev shape_H : Shape
shape_H = laid_for (0 ∷ 0 ∷ 1 ∷ 2 ∷ 3 ∷ 4 ∷ 5 ∷ []) (1 ∷ 2 ∷ 6 ∷ 3 ∷ 4 ∷ 6 ∷ 6 ∷ [])

H-at-1 : shape_H 7 1 ≡ (0 ∷ 0 ∷ 0 ∷ 3 ∷ 3 ∷ 5 ∷ 5 ∷ [], 0 ∷ 0 ∷ 1 ∷ 1 ∷ 0 ∷ 1 ∷ 0 ∷ [])
unfolding laid_for
H-at-1 = refl

H-at-3 : shape_H 7 3 ≡ (0 ∷ 0 ∷ 0 ∷ 2 ∷ 6 ∷ 6 ∷ 1 ∷ [], 0 ∷ 0 ∷ 0 ∷ 0 ∷ 0 ∷ 0 ∷ 0 ∷ [])
unfolding laid_for
H-at-3 = refl

-- G: 0-3 0-4 1-2 1-4 2-3 2-4 3-5 4-5. The first of three links between the clusters 0 and 1 is preferred
G-at-1 : laid_for (0 ∷ 0 ∷ 1 ∷ 1 ∷ 2 ∷ 2 ∷ 3 ∷ 4 ∷ []) (3 ∷ 4 ∷ 2 ∷ 4 ∷ 3 ∷ 4 ∷ 5 ∷ 5 ∷ []) 6 1 ≡ (0 ∷ 1 ∷ 1 ∷ 0 ∷ 0 ∷ 5 ∷ [], 0 ∷ 0 ∷ 0 ∷ 1 ∷ 0 ∷ 0 ∷ 1 ∷ 0 ∷ [])
unfolding laid_for
G-at-1 = refl

-- ---- plan T, in bytes

-- one round, two nodes with parents p and q and the values 100 and 301, then these links and kind 0
abbrev two_nodes : ℕ → ℕ → List ℕ → List ℕ
two_nodes p q links = 1 ∷ 0 ∷ 1 ∷ 2 ∷ 0 ∷ p ∷ 0 ∷ 100 ∷ 2 ∷ 1 ∷ q ∷ 1 ∷ 45 ∷ links ++ 0 ∷ []

-- T with parents that nobody filled in
abbrev bytes_T : List ℕ
bytes_T = two_nodes 255 77 (3 ∷ 0 ∷ 1 ∷ 1 ∷ [])

-- the answer for bytes, a depth and a buffer's length
answer_for : List ℕ → ℕ → ℕ → ℕ × ℕ
unfolding layout_of lists_of lists_from turn read_at record_at body_length if_lt if_eq if_b zero_network rounds_rule node_rule follows_of rises link_rule end_rule rounds_added node_added link_added with_sets first_unjoined joined_marks pass across follow fold_below first_of member digit inserted
answer_for s depth room =
    let x = layout_of s depth room in
    (x.number, x.place)

T-is-laid-out : answer_for bytes_T 63 18 ≡ (0, 18)
unfolding answer_for
T-is-laid-out = refl

T-too-deep : answer_for bytes_T 64 18 ≡ (22, 0)
unfolding answer_for
T-too-deep = refl

T-has-no-room : answer_for bytes_T 63 17 ≡ (23, 0)
unfolding answer_for
T-has-no-room = refl

-- 22 before 23
T-deep-and-short : answer_for bytes_T 64 17 ≡ (22, 0)
unfolding answer_for
T-deep-and-short = refl

-- a plan's own numbers come first, whatever the depth and the buffer
no_link_at_any_depth : answer_for (two_nodes 0 1 []) 64 0 ≡ (10, 1)
unfolding answer_for
no_link_at_any_depth = refl

flag_2_at_any_depth : answer_for (two_nodes 0 1 (3 ∷ 0 ∷ 1 ∷ 2 ∷ [])) 64 0 ≡ (5, 13)
unfolding answer_for
flag_2_at_any_depth = refl

-- 1 to 4 as the plan reader: no kind 9, a body cut short, nothing at all, the 65th node
no_kind_9 : answer_for (9 ∷ []) 0 0 ≡ (1, 0)
unfolding answer_for
no_kind_9 = refl

rounds_cut_short : answer_for (1 ∷ 0 ∷ []) 0 0 ≡ (2, 0)
unfolding answer_for
rounds_cut_short = refl

no_plan_lem : answer_for [] 0 0 ≡ (3, 0)
unfolding answer_for
no_plan_lem = refl

-- n nodes from k on
roots : ℕ → ℕ → List ℕ
roots zero k = []
roots (suc n) k = 2 ∷ k ∷ k ∷ 0 ∷ 0 ∷ roots n (suc k)

nodes_65 : answer_for (1 ∷ 0 ∷ 1 ∷ roots 65 0) 0 0 ≡ (4, 323)
unfolding answer_for roots
nodes_65 = refl

-- a layout answers this number
abbrev pub Comes : ℕ → Type 0
Comes k = (s : List ℕ) × (depth : ℕ) × (room : ℕ) × ((layout_of s depth room).number ≡ k)

comes : (s : List ℕ) (depth room k w : ℕ) → answer_for s depth room ≡ (k, w) → Comes k
unfolding answer_for
comes s depth room k w e = (s, depth, room, ap (λ (x : ℕ × ℕ). x.0) e)

-- each number of a layout comes back for some bytes, depth and buffer
pub record EachComes : Type 0 where
  pub laid_out_lem : Comes 0
  pub unknown : Comes 1
  pub cut_short_lem : Comes 2
  pub out_of_order_lem : Comes 3
  pub too_many_lem : Comes 4
  pub out_of_range_lem : Comes 5
  pub unjoined : Comes 10
  pub too_deep_lem : Comes 22
  pub no_room_lem : Comes 23

pub each_comes : EachComes
each_comes =
    record {
      laid_out_lem = comes bytes_T 63 18 0 18 T-is-laid-out;
      unknown = comes (9 ∷ []) 0 0 1 0 no_kind_9;
      cut_short_lem = comes (1 ∷ 0 ∷ []) 0 0 2 0 rounds_cut_short;
      out_of_order_lem = comes [] 0 0 3 0 no_plan_lem;
      too_many_lem = comes (1 ∷ 0 ∷ 1 ∷ roots 65 0) 0 0 4 323 nodes_65;
      out_of_range_lem = comes (two_nodes 0 1 (3 ∷ 0 ∷ 1 ∷ 2 ∷ [])) 64 0 5 13 flag_2_at_any_depth;
      unjoined = comes (two_nodes 0 1 []) 64 0 10 1 no_link_at_any_depth;
      too_deep_lem = comes bytes_T 64 18 22 0 T-too-deep;
      no_room_lem = comes bytes_T 63 17 23 0 T-has-no-room;
    }

-- the buffer afterwards: T at depth 1 is one cluster, at depth 0 two, and what stands behind the plan stays
buffer_for : List ℕ → ℕ → List ℕ → List ℕ
unfolding laid_in laid_over with_flags with_parents with_fields copied laid_for answer_for
buffer_for s depth out = laid_in s depth out

T-written-at-1 : buffer_for bytes_T 1 (replicate 20 7) ≡ two_nodes 0 0 (3 ∷ 0 ∷ 1 ∷ 0 ∷ []) ++ 7 ∷ 7 ∷ []
unfolding buffer_for
T-written-at-1 = refl

T-written-at-0 : buffer_for bytes_T 0 (replicate 20 7) ≡ two_nodes 0 1 (3 ∷ 0 ∷ 1 ∷ 1 ∷ []) ++ 7 ∷ 7 ∷ []
unfolding buffer_for
T-written-at-0 = refl

T-not-written : buffer_for bytes_T 1 (replicate 17 7) ≡ replicate 17 7
unfolding buffer_for
T-not-written = refl
