-- A plan's bytes as runs of records, nodes of 5 bytes and links of 4, so that the plan's length is told by its counts.
-- Assumes nothing.
use Prim.Native.Nat.{ℕ, suc, ◌+◌, ◌*◌}
use native.Mathlib.Omega.{arith}
use mathlib.Core.Path.{◌≡◌, refl, ap}
use mathlib.Core.List.{List, [], ◌∷◌, ◌++◌}
use lib.ListN.{length, length-append}
use Rattle.records.specs.Plan.{Plan, PlanNode, PlanLink, two_bytes, rounds_bytes, node_bytes, nodes_bytes, link_bytes, links_bytes, bytes_of}
use Rattle.layout.proofs.Fields.{run, run_length}

pub rounds_wide : (v : ℕ) → length (rounds_bytes v) ≡ 3
unfolding rounds_bytes two_bytes
rounds_wide v = refl

pub node_wide : (number : ℕ) (x : PlanNode) → length (node_bytes number x) ≡ 5
unfolding node_bytes two_bytes
node_wide number x = refl

-- a link's record has no number of its own
abbrev pub numbered_link : ℕ → PlanLink → List ℕ
numbered_link _ x = link_bytes x

pub link_wide : (number : ℕ) (x : PlanLink) → length (numbered_link number x) ≡ 4
unfolding link_bytes
link_wide number x = refl

-- ---- the runs

pub nodes_run : (number : ℕ) (xs : List PlanNode) → nodes_bytes number xs ≡ run node_bytes number xs
unfolding nodes_bytes run
nodes_run number [] = refl
nodes_run number (x ∷ xs) = ap (λ l. node_bytes number x ++ l) (nodes_run (suc number) xs)

pub links_run : (number : ℕ) (xs : List PlanLink) → links_bytes xs ≡ run numbered_link number xs
unfolding links_bytes run
links_run number [] = refl
links_run number (x ∷ xs) = ap (λ l. link_bytes x ++ l) (links_run (suc number) xs)

-- ---- lengths

pub nodes_length : (number : ℕ) (xs : List PlanNode) → length (nodes_bytes number xs) ≡ 5 * length xs
nodes_length number xs = rw nodes_run (run_length node_bytes 5 node_wide number xs)

pub links_length : (xs : List PlanLink) → length (links_bytes xs) ≡ 4 * length xs
links_length xs = rw (links_run 0 xs) (run_length numbered_link 4 link_wide 0 xs)

pub plan_length : (p : Plan) → length (bytes_of p) ≡ 4 + 5 * length p.nodes + 4 * length p.links
unfolding bytes_of
plan_length p =
    let rounds = rounds_bytes p.rounds in
    let nodes = nodes_bytes 0 p.nodes in
    let links = links_bytes p.links in
    omega (arith, length-append (rounds ++ nodes ++ links) (0 ∷ []), length-append (rounds ++ nodes) links, length-append rounds nodes, rounds_wide p.rounds, nodes_length 0 p.nodes, links_length p.links)
