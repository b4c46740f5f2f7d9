-- The plan that the code's lists make of a plan p is p laid out, by the rule. The neighbour sets tell p's links, so the parents are claimed so; and
-- the table of roots holds the clusters of the new parents, so each flag is that of the first link between its two clusters.
-- Assumes nothing.
use Prim.Native.Nat.{ℕ, ◌<◌}
use native.Mathlib.Omega.{arith}
use native.Mathlib.Decide.{dec_lt}
use mathlib.Core.Path.{◌≡◌, sym, ◌∙◌, ap, ap₂, subst, fun_ext}
use mathlib.Core.List.{List}
use lib.ListN.{length, get_or, replicate, length-map, length-replicate}
use lib.Seq.{ext_get_or}
use Rattle.laws.proofs.Below.{over_below_lem}
use Rattle.network.specs.Sets.{with_sets}
use Rattle.records.specs.Plan.{Plan, padded, network_of, Keeps1to5}
use Rattle.records.proofs.Lists.{length_padded, padded_past}
use Rattle.links.specs.Links.{nodes_of, links_of}
use Rattle.clusters.specs.Clusters.{roots_of, root_at, cluster_at, cluster_of}
use Rattle.clusters.proofs.Roots.{table_holds}
use Rattle.plan.specs.Accepted.{plan_network}
use Rattle.claims.specs.Claimed.{Claims, ClaimedSo}
use Rattle.claims.specs.Claiming.{claim_all, parents_of, claims_of, near_by}
use Rattle.claims.proofs.Steps.{claimed_so, parents_length, parents_past}
use Rattle.claims.proofs.Turns.{claimed_links}
use Rattle.layout.specs.FirstLinks.{first_flag}
use Rattle.layout.specs.Layout.{laid_parents, first_flags, laid_flags}
use Rattle.layout.specs.LaidOut.{parents_in, wired, LaidOut}
use Rattle.layout.proofs.Consequences.{parent_in_network, flag_in_network}
use Rattle.layout.proofs.Places.{all_nodes_lem, all_links}
use Rattle.layout.proofs.Preferred.{first_flag_in, first_links_exactly}
use Rattle.layout.proofs.Relaid.{relaid, relaid_nodes, relaid_links, relaid_same, relaid_parent, relaid_flag}
use Rattle.layout.proofs.Wires.{near_is_wired}

-- the plan with the parents and flags that its own network gives for a depth
abbrev pub laid_plan : ℕ → Plan → Plan
laid_plan depth p = relaid (laid_parents (plan_network p) depth) (laid_flags (plan_network p) depth) p

module _ (depth : ℕ) (p : Plan) (K : Keeps1to5 p) where
  abbrev n : ℕ
  n = nodes_of (plan_network p)

  abbrev parents : List ℕ
  parents = laid_parents (plan_network p) depth

  abbrev flags : List ℕ
  flags = laid_flags (plan_network p) depth

  abbrev q : Plan
  q = laid_plan depth p

  -- ---- parents

  abbrev claims : Claims
  claims = claims_of (claim_all (plan_network p).neighbours n depth)

  claimed : ClaimedSo (wired p) (length p.nodes) depth claims
  claimed =
      claimed_links (near_is_wired p K)
      (subst (λ m. ClaimedSo (near_by (plan_network p).neighbours) m depth claims) (all_nodes_lem p K) (claimed_so (plan_network p).neighbours n depth (omega arith)))

  claimer : (i : ℕ) → i < length p.nodes → get_or (parents_in q) i 0 ≡ claims.by i
  unfolding parents_of
  claimer = relaid_parent parents flags p

  -- the network's list of parents is the code's, zeros past the nodes included
  parents_kept : (plan_network q).parents ≡ parents
  unfolding with_sets network_of
  parents_kept =
      ext_get_or 0 (padded 64 (parents_in q)) parents (long ∙ sym (parents_length (plan_network p).neighbours n depth (omega arith))) (λ i _. at i (dec_lt i (length p.nodes)))
    where
      count : length (parents_in q) ≡ length p.nodes
      count = length-map q.nodes (λ x. x.parent) ∙ relaid_nodes parents flags p

      long : length (padded 64 (parents_in q)) ≡ 64
      long = length_padded 64 (parents_in q) (omega (arith, count, K.at_most_64_nodes))

      at : (i : ℕ) → Dec (i < length p.nodes) → get_or (padded 64 (parents_in q)) i 0 ≡ get_or parents i 0
      at i (yes h) =
          parent_in_network q i (omega (arith, relaid_nodes parents flags p)) ∙ relaid_parent parents flags p i h
      at i (no h) =
          padded_past 64 (parents_in q) i (omega (arith, count)) ∙ sym (parents_past (plan_network p).neighbours n depth (omega arith) i (omega (arith, all_nodes_lem p K)))

  -- ---- flags

  nodes_kept : nodes_of (plan_network q) ≡ n
  unfolding with_sets network_of
  nodes_kept = omega (arith, relaid_nodes parents flags p)

  links_kept : links_of (plan_network q) ≡ links_of (plan_network p)
  unfolding with_sets network_of
  links_kept = omega (arith, relaid_links parents flags p)

  -- the code's table of roots holds the clusters of the plan that is written
  cluster_kept : (x : ℕ) → root_at (roots_of parents n) x ≡ cluster_of (plan_network q) x
  cluster_kept x =
      ap (λ roots. root_at roots x) (sym (ap₂ roots_of parents_kept nodes_kept)) ∙ table_holds (plan_network q) x

  lowers_kept : (plan_network p).lowers ≡ (plan_network q).lowers
  unfolding with_sets network_of
  lowers_kept = ap (padded 128) (sym (relaid_same parents flags p).lowers)

  uppers_kept : (plan_network p).uppers ≡ (plan_network q).uppers
  unfolding with_sets network_of
  uppers_kept = ap (padded 128) (sym (relaid_same parents flags p).uppers)

  -- the flag that the code computes of link l, and that of the plan that is written
  abbrev computed : ℕ → ℕ
  computed = first_flag (cluster_at (roots_of parents n) (plan_network p).lowers) (cluster_at (roots_of parents n) (plan_network p).uppers)

  flag_computed : (l : ℕ) → l < links_of (plan_network p) → get_or (laid_flags (plan_network p) depth) l 0 ≡ computed l
  unfolding first_flags
  flag_computed l h =
      over_below_lem computed (links_of (plan_network p)) (replicate 128 0) l 0 h (omega (arith, length-replicate {A = ℕ} 128 0))

  computed_is : (l : ℕ) → computed l ≡ first_flag_in (plan_network q) l
  computed_is l = ap₂ (λ lower upper. first_flag lower upper l) (fun_ext (at lowers_kept)) (fun_ext (at uppers_kept))
    where
      at : {ends ends' : List ℕ} → ends ≡ ends' → (k : ℕ) → cluster_at (roots_of parents n) ends k ≡ cluster_of (plan_network q) (get_or ends' k 0)
      at {ends} e k = cluster_kept (get_or ends k 0) ∙ ap (λ xs. cluster_of (plan_network q) (get_or xs k 0)) e

  flag_is : (l : ℕ) → l < links_of (plan_network q) → get_or (plan_network q).flags l 0 ≡ first_flag_in (plan_network q) l
  flag_is l h =
      let b : l < length p.links = omega (arith, links_kept, all_links p K) in
      flag_in_network q l (omega (arith, relaid_links parents flags p))
      ∙ relaid_flag parents flags p l b
      ∙ flag_computed l (omega (arith, links_kept))
      ∙ computed_is l

  -- it is p laid out
  pub laid_plan_so : LaidOut depth p (laid_plan depth p)
  laid_plan_so =
      record {
        same = relaid_same parents flags p;
        claims = claims;
        claimed = claimed;
        parents = claimer;
        preferred = (first_links_exactly (plan_network q)).1 flag_is;
      }
