-- The table of roots holds each node's cluster: "its cluster is all nodes whose parents lead to it".
-- Assumes nothing.
use Prim.Native.Nat.{ℕ, ◌<◌, ◌≤◌, min}
use native.Mathlib.Omega.{arith}
use native.Mathlib.Decide.{dec_lt}
use mathlib.Core.Path.{◌≡◌, refl, sym, ◌∙◌, ap}
use mathlib.Core.Logic.{◌↔◌}
use mathlib.Core.List.{List}
use lib.ListN.{get_or, replicate, length-replicate, get_or-replicate}
use Rattle.laws.specs.Below.{over_below, list_below}
use Rattle.laws.proofs.Choice.{lt_elim}
use Rattle.laws.proofs.Below.{length_over, over_below_lem, over_above, list_is}
use Rattle.network.specs.declared.Network.{Network}
use Rattle.links.specs.Links.{nodes_of}
use Rattle.std.specs.Prelude.{Option, Some, None}
use Rattle.tree.specs.Climb.{parent_in, root_from, root_number, root_of, Leads}
use Rattle.tree.specs.Checks.{first_lost}
use Rattle.tree.proofs.Turn.{no_node}
use Rattle.tree.proofs.Roots.{found_exactly}
use Rattle.tree.proofs.Checks.{root_found}
use Rattle.clusters.specs.Clusters.{roots_of, root_table, root_at, cluster_of}

-- the table is the list of what each of the 64 places leads to: past the nodes there is no root
pub table_listed : (parents : List ℕ) (n : ℕ) → n ≤ 64 → list_below (λ p. root_number (root_from (parent_in parents) n n p)) 64 ≡ roots_of parents n
unfolding roots_of
table_listed parents n few =
    sym (list_is entry 64 (over_below entry n (replicate 64 64)) 0 (length_over entry n (replicate 64 64) ∙ length-replicate {A = ℕ} 64 64) (λ k h. at k h (dec_lt k n)))
  where
    entry : ℕ → ℕ
    entry p = root_number (root_from (parent_in parents) n n p)

    at : (k : ℕ) → k < 64 → Dec (k < n) → get_or (over_below entry n (replicate 64 64)) k 0 ≡ entry k
    at k h (yes l) = over_below_lem entry n (replicate 64 64) k 0 l (omega (arith, length-replicate {A = ℕ} 64 64))
    at k h (no l) =
        over_above entry n (replicate 64 64) k 0 (omega arith) ∙ get_or-replicate 64 k 64 0 h ∙ sym (ap root_number (no_node (parent_in parents) n n k (omega arith)))

-- a place past the nodes leads to no root
pub past_nodes : (parents : List ℕ) (nodes p : ℕ) → nodes ≤ p → 64 ≡ root_number (root_from (parent_in parents) (min nodes 64) (min nodes 64) p)
past_nodes parents nodes p h = sym (ap root_number (no_node (parent_in parents) (min nodes 64) (min nodes 64) p (omega arith)))

module _ (net : Network) where
  abbrev n : ℕ
  n = nodes_of net

  abbrev up : ℕ → ℕ
  up = parent_in net.parents

  -- what is no node has no cluster
  pub no_cluster : (p : ℕ) → nodes_of net ≤ p → cluster_of net p ≡ 64
  unfolding cluster_of
  no_cluster p h = ap root_number (no_node up n n p h)

  -- the table holds each node's cluster
  pub table_holds : (p : ℕ) → root_at (root_table net) p ≡ cluster_of net p
  unfolding root_at roots_of cluster_of
  table_holds p =
      lt_elim (λ r. r ≡ cluster_of net p) p 64 (get_or (root_table net) p 0) 64 (λ h. at h (dec_lt p n)) (λ h. sym (no_cluster p (omega arith)))
    where
      entry : ℕ → ℕ
      entry q = root_number (root_from up n n q)

      at : p < 64 → Dec (p < nodes_of net) → get_or (over_below entry n (replicate 64 64)) p 0 ≡ cluster_of net p
      at h (yes l) = over_below_lem entry n (replicate 64 64) p 0 l (omega (arith, length-replicate {A = ℕ} 64 64))
      at h (no l) =
          over_above entry n (replicate 64 64) p 0 (omega arith) ∙ get_or-replicate 64 p 64 0 h ∙ sym (no_cluster p (omega arith))

  -- the cluster of p is r exactly if the parents of p lead to r
  pub cluster_exactly : (p r : ℕ) → r < 64 → (cluster_of net p ≡ r) ↔ Leads (parent_in net.parents) (nodes_of net) p r
  unfolding cluster_of
  cluster_exactly p r h = (λ e. (found_exactly up n p r).0 (at (root_from up n n p) refl e), λ x. ap root_number ((found_exactly up n p r).1 x))
    where
      at : (c : Option ℕ) → root_from up n n p ≡ c → root_number c ≡ r → root_from up n n p ≡ Some r
      at (Some s) e f = e ∙ ap Some f
      at None e f = absurd (omega arith)

  -- where 7 does not apply, it is where as many steps as there are nodes lead
  pub cluster_is_root : first_lost net ≡ nodes_of net → (p : ℕ) → p < nodes_of net → cluster_of net p ≡ root_of (parent_in net.parents) (nodes_of net) p
  unfolding cluster_of
  cluster_is_root e p h = ap root_number (root_found net e p h)
