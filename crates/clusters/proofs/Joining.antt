-- What the synchronizer takes from check 9: for each link between two clusters a preferred link joins the same two. Here a node's cluster is told as
-- in report 588, by where as many steps along the parents as there are nodes lead.
-- Assumes nothing.
use Prim.Native.Nat.{ℕ, ◌<◌}
use mathlib.Core.Path.{◌≡◌, sym, ◌∙◌}
use lib.ListN.{get_or}
use Rattle.network.specs.declared.Network.{Network}
use Rattle.links.specs.Links.{nodes_of, links_of, SamePair, straight, crossed}
use Rattle.links.proofs.Breach.{none_exactly}
use Rattle.tree.specs.Climb.{parent_in, root_of}
use Rattle.tree.specs.Checks.{first_lost}
use Rattle.clusters.specs.Clusters.{first_not_one, cluster_of, Preferred, OnePreferred, PairHasOne}
use Rattle.clusters.proofs.Roots.{cluster_is_root}
use Rattle.clusters.proofs.Checks.{not_one_is_breach}

-- the roots of the two ends of link l
abbrev pub lower_root : Network → ℕ → ℕ
lower_root net l = root_of (parent_in net.parents) (nodes_of net) (get_or net.lowers l 0)

abbrev pub upper_root : Network → ℕ → ℕ
upper_root net l = root_of (parent_in net.parents) (nodes_of net) (get_or net.uppers l 0)

-- some preferred link joins the same two clusters as link l
pub record PreferredLike (net : Network) (l : ℕ) : Type 0 where
  pub link : ℕ
  pub below : link < links_of net
  pub preferred_link : Preferred net link
  pub same_clusters : SamePair (lower_root net link) (upper_root net link) (lower_root net l) (upper_root net l)

module _ (net : Network) (rooted : first_lost net ≡ nodes_of net) (lower_below : (l : ℕ) → l < links_of net → get_or net.lowers l 0 < nodes_of net)
    (upper_below : (l : ℕ) → l < links_of net → get_or net.uppers l 0 < nodes_of net) where
  pub joining : first_not_one net ≡ links_of net → (l : ℕ) → l < links_of net → (lower_root net l ≡ upper_root net l → ⊥) → PreferredLike net l
  unfolding PairHasOne
  joining single l h apart = like ((none_exactly (not_one_is_breach net)).0 single l h (λ e. apart (sym (lower_is l h) ∙ e ∙ upper_is l h)))
    where
      lower_is : (k : ℕ) → k < links_of net → cluster_of net (get_or net.lowers k 0) ≡ lower_root net k
      lower_is k b = cluster_is_root net rooted (get_or net.lowers k 0) (lower_below k b)

      upper_is : (k : ℕ) → k < links_of net → cluster_of net (get_or net.uppers k 0) ≡ upper_root net k
      upper_is k b = cluster_is_root net rooted (get_or net.uppers k 0) (upper_below k b)

      same : (k : ℕ) → k < links_of net → SamePair (cluster_of net (get_or net.lowers k 0)) (cluster_of net (get_or net.uppers k 0)) (cluster_of net (get_or net.lowers l 0)) (cluster_of net (get_or net.uppers l 0)) → SamePair (lower_root net k) (upper_root net k) (lower_root net l) (upper_root net l)
      same k b (straight e f) = straight (sym (lower_is k b) ∙ e ∙ lower_is l h) (sym (upper_is k b) ∙ f ∙ upper_is l h)
      same k b (crossed e f) = crossed (sym (lower_is k b) ∙ e ∙ upper_is l h) (sym (upper_is k b) ∙ f ∙ lower_is l h)

      like : OnePreferred net (cluster_of net (get_or net.lowers l 0)) (cluster_of net (get_or net.uppers l 0)) → PreferredLike net l
      like o =
          record { link = o.link; below = o.below; preferred_link = o.preferred_link; same_clusters = same o.link o.below o.between_them }
