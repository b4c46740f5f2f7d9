-- The layout's answer for any bytes, any depth and any buffer, and what the buffer holds afterwards. `LaidOut` says what is written.
-- Assumes nothing.
use Rattle.std.specs.Prelude.{ℕ, ◌+◌, ◌*◌, ◌<◌, ◌≤◌, List, length, get_or, set, replicate}
use Rattle.laws.specs.Choice.{if_b, if_lt, if_eq}
use Rattle.laws.specs.Below.{fold_below, over_below}
use Rattle.network.specs.declared.Network.{Network}
use Rattle.nodeset.specs.Marks.{member}
use Rattle.network.specs.Sets.{with_sets, added}
use Rattle.records.specs.Numbers.{accepted}
use Rattle.records.specs.Reader.{lists_of}
use Rattle.links.specs.Links.{nodes_of, links_of}
use Rattle.clusters.specs.Clusters.{roots_of, cluster_at}
use Rattle.joined.specs.Joined.{first_unjoined}
use Rattle.plan.specs.Numbers.{unjoined}
use Rattle.claims.specs.Claiming.{parents_of}
use Rattle.layout.specs.FirstLinks.{first_flag}
use Rattle.layout.specs.Laid.{Laid}
use Rattle.layout.specs.Numbers.{too_deep, no_room}

-- ---- the answer

abbrev pub laid : ℕ → ℕ → Laid
laid number place = record { number = number; place = place }

-- the network of the bytes' records, which rules 1 to 5 let pass, with the sets that its links give
abbrev pub wires_of : List ℕ → Network
wires_of s = with_sets (lists_of s).network

-- "Refusals, in order: 1 to 5 as before, 10, then 22 depth above 63, 23 buffer shorter than the plan, both with place 0"
unfoldable pub layout_of : List ℕ → ℕ → ℕ → Laid
layout_of s depth room =
    if_eq (lists_of s).number accepted
    (if_lt (first_unjoined (wires_of s)) (nodes_of (wires_of s)) (laid unjoined (first_unjoined (wires_of s)))
    (if_lt 63 depth (laid too_deep 0)
    (if_lt room (lists_of s).place (laid no_room 0) (laid accepted (lists_of s).place))))
    (laid (lists_of s).number (lists_of s).place)

-- ---- what is laid out

-- "The parent is the node that claimed it"
abbrev pub laid_parents : Network → ℕ → List ℕ
laid_parents net depth = parents_of net.neighbours (nodes_of net) depth

-- "The preferred link of two joined clusters is the first in the list", where the parents give the clusters
unfoldable pub first_flags : List ℕ → List ℕ → List ℕ → ℕ → List ℕ
first_flags roots lowers uppers links = over_below (first_flag (cluster_at roots lowers) (cluster_at roots uppers)) links (replicate 128 0)

-- one link's flag, where met has for each cluster those that a link before it joins to it; and what has been met with this link
unfoldable pub flag_by : List ℕ → ℕ → ℕ → ℕ
flag_by met x y = if_eq x y 0 (if_b (member (get_or met x 0) y) 0 1)

unfoldable pub met_with : List ℕ → ℕ → ℕ → List ℕ
met_with met x y = if_eq x y met (if_b (member (get_or met x 0) y) met (added (added met x y) y x))

-- the clusters at both ends of each link are told by a node's number
abbrev pub Clustered : List ℕ → List ℕ → List ℕ → ℕ → Type 0
Clustered roots lowers uppers links = (l : ℕ) → l < links → (cluster_at roots lowers l < 64) × (cluster_at roots uppers l < 64)

abbrev pub laid_flags : Network → ℕ → List ℕ
laid_flags net depth = first_flags (roots_of (laid_parents net depth) (nodes_of net)) net.lowers net.uppers (links_of net)

-- ---- where it is written

-- the first n bytes of s over those of the buffer
unfoldable pub copied : List ℕ → ℕ → List ℕ → List ℕ
copied s n out = over_below (λ k. get_or s k 0) n out

-- one field of each of `count` records that stand `width` bytes apart, from place `at` on
unfoldable pub with_fields : List ℕ → ℕ → ℕ → ℕ → List ℕ → List ℕ
with_fields fields count at width out = fold_below (λ k xs. set xs (at + width * k) (get_or fields k 0)) out count

-- kind 1 takes 3 bytes, a node 5 with its parent behind kind and number, a link 4 with its flag last
unfoldable pub with_parents : List ℕ → ℕ → List ℕ → List ℕ
with_parents parents nodes out = with_fields parents nodes (3 + 2) 5 out

unfoldable pub with_flags : List ℕ → ℕ → ℕ → List ℕ → List ℕ
with_flags flags nodes links out = with_fields flags links (3 + 5 * nodes + 3) 4 out

-- a plan of n bytes with the network's parents and flags laid out anew
unfoldable pub laid_over : List ℕ → ℕ → Network → ℕ → List ℕ → List ℕ
laid_over s n net depth out =
    with_flags (laid_flags net depth) (nodes_of net) (links_of net)
    (with_parents (laid_parents net depth) (nodes_of net) (copied s n out))

-- the plan's bytes stand in s and fit the buffer, with a place for each parent and flag, and its links join clusters
pub record LaysOut (s : List ℕ) (n : ℕ) (net : Network) (depth room : ℕ) : Type 0 where
  pub there : n ≤ length s
  pub fits : n ≤ room
  pub fields : 4 + 5 * nodes_of net + 4 * links_of net ≤ n
  pub clustered : Clustered (roots_of (laid_parents net depth) (nodes_of net)) net.lowers net.uppers (links_of net)

-- "a refused layout writes nothing, an accepted one nothing past the plan"
unfoldable pub laid_in : List ℕ → ℕ → List ℕ → List ℕ
laid_in s depth out =
    if_eq (layout_of s depth (length out)).number accepted (laid_over s (lists_of s).place (wires_of s) depth out) out
