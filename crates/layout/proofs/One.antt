-- The rule leaves no choice: two plans that are p laid out to the same depth are one. Claims that are so are one, so the parents are the same; then
-- the clusters are the same, and each flag is told by them. And the rule sees nothing of a plan but its rounds, values and links, so what stood
-- in parents and flags has no influence, and a plan laid out again stays as it is.
-- Assumes nothing.
use Prim.Native.Nat.{ℕ, ◌<◌}
use native.Mathlib.Omega.{arith}
use mathlib.Core.Path.{◌≡◌, sym, ◌∙◌, ap, subst₂}
use lib.ListN.{length, get_or, length-map}
use lib.Seq.{ext_get_or}
use Rattle.network.specs.declared.Network.{Network}
use Rattle.network.specs.Sets.{with_sets}
use Rattle.records.specs.Plan.{Plan, padded, network_of, Keeps1to5}
use Rattle.records.proofs.Networks.{one_plan}
use Rattle.clusters.specs.Clusters.{cluster_of}
use Rattle.plan.specs.Accepted.{plan_network}
use Rattle.claims.specs.Claimed.{ClaimedSo}
use Rattle.claims.proofs.Unique.{claimed_one}
use Rattle.layout.specs.FirstLinks.{first_flag}
use Rattle.layout.specs.LaidOut.{parents_in, flags_in, SameWires, LaidOut}
use Rattle.layout.proofs.Consequences.{flag_in_network, laid_records}
use Rattle.layout.proofs.Places.{all_links}
use Rattle.layout.proofs.Preferred.{first_flag_in, first_links_exactly}
use Rattle.layout.proofs.Wires.{wires_sym, wires_trans, wires_nodes, wires_links, wired_same}

-- ---- what stood in parents and flags

-- "what stood in parents and flags has no influence"
pub laid_forgets : {depth : ℕ} {p p' q : Plan} → SameWires p p' → LaidOut depth p q → LaidOut depth p' q
laid_forgets {depth} {p} {p'} {q} w L =
    record {
      same = wires_trans (wires_sym w) L.same;
      claims = L.claims;
      claimed = subst₂ (λ near n. ClaimedSo near n depth L.claims) (sym (wired_same w)) (sym (wires_nodes w)) L.claimed;
      parents = λ i h. L.parents i (omega (arith, wires_nodes w));
      preferred = L.preferred;
    }

-- "laying out again gives the same"
pub laid_again : {depth : ℕ} {p q : Plan} → LaidOut depth p q → LaidOut depth q q
laid_again L = laid_forgets L.same L

-- ---- two that are so are one

-- the clusters are told by the parents and the node count
clusters_same : (net other : Network) → net.parents ≡ other.parents → net.nodes ≡ other.nodes → cluster_of net ≡ cluster_of other
unfolding cluster_of
clusters_same net other e f = rw (e, f)

-- a link's flag, by the clusters of the links
flag_told : {depth : ℕ} {p q : Plan} (L : LaidOut depth p q) → Keeps1to5 p → (l : ℕ) → l < length p.links → get_or (flags_in q) l 0 ≡ first_flag_in (plan_network q) l
flag_told {depth} {p} {q} L K l h =
    sym (flag_in_network q l (omega (arith, wires_links L.same)))
    ∙ (first_links_exactly (plan_network q)).0 L.preferred l (omega (arith, wires_links L.same, all_links q (laid_records L K)))

module _ {depth : ℕ} {p q q' : Plan} (L : LaidOut depth p q) (L' : LaidOut depth p q') where
  wires : SameWires q' q
  wires = wires_trans (wires_sym L'.same) L.same

  parents_one : parents_in q ≡ parents_in q'
  parents_one =
      ext_get_or 0 (parents_in q) (parents_in q') (length-map q.nodes (λ x. x.parent) ∙ wires_nodes wires ∙ sym (length-map q'.nodes (λ x. x.parent)))
      (λ i h. let b : i < length p.nodes = omega (arith, length-map q.nodes (λ x. x.parent), wires_nodes L.same) in L.parents i b ∙ (claimed_one L.claimed L'.claimed i b).0 ∙ sym (L'.parents i b))

  clusters_one : cluster_of (plan_network q) ≡ cluster_of (plan_network q')
  unfolding with_sets network_of
  clusters_one =
      clusters_same (plan_network q) (plan_network q') (ap (padded 64) parents_one) (wires_nodes wires)

  module _ (K : Keeps1to5 p) where
    flags_one : flags_in q ≡ flags_in q'
    unfolding with_sets network_of
    flags_one =
        ext_get_or 0 (flags_in q) (flags_in q') (length-map q.links (λ x. x.flag) ∙ wires_links wires ∙ sym (length-map q'.links (λ x. x.flag)))
        (λ l h. let b : l < length p.links = omega (arith, length-map q.links (λ x. x.flag), wires_links L.same) in flag_told L K l b ∙ same_flag l ∙ sym (flag_told L' K l b))
      where
        same_flag : (l : ℕ) → first_flag_in (plan_network q) l ≡ first_flag_in (plan_network q') l
        same_flag l =
            λ i. first_flag (λ k. clusters_one i (get_or (padded 128 (wires.lowers i)) k 0)) (λ k. clusters_one i (get_or (padded 128 (wires.uppers i)) k 0)) l

    pub laid_one : q ≡ q'
    unfolding network_of
    laid_one = one_plan q q' same_network
      where
        same_network : network_of q ≡ network_of q'
        same_network =
            λ i. record {
              nodes = wires_nodes wires i;
              links = wires_links wires i;
              rounds = wires.rounds i;
              parents = padded 64 (parents_one i);
              starts = padded 64 (wires.starts i);
              lowers = padded 128 (wires.lowers i);
              uppers = padded 128 (wires.uppers i);
              flags = padded 128 (flags_one i);
              neighbours = (network_of q).neighbours;
              children = (network_of q).children;
              preferred = (network_of q).preferred;
            }
