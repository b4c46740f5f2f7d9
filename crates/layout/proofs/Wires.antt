-- What plans with the same rounds, values and links share: the counts, the lists of the network, who has a link, and who is joined to node 0.
-- And a plan's links as its own network tells them.
-- Assumes nothing.
use Prim.Native.Nat.{ℕ, zero, suc, ◌<◌}
use native.Mathlib.Nat.{le_refl}
use native.Mathlib.Omega.{arith}
use mathlib.Core.Path.{◌≡◌, refl, sym, ◌∙◌, ap, ap₂}
use mathlib.Core.Logic.{◌↔◌}
use mathlib.Core.Bool.{Bool, true}
use mathlib.Core.List.{List, map}
use lib.Dec.{ltb}
use lib.ListN.{length, get_or, length-map}
use Rattle.laws.specs.Choice.{if_b, if_lt}
use Rattle.laws.specs.Below.{first_of}
use Rattle.laws.proofs.Choice.{same_test}
use Rattle.laws.proofs.Below.{list_at}
use Rattle.nodeset.specs.Marks.{member}
use Rattle.network.specs.declared.Network.{Network}
use Rattle.network.specs.Sets.{neighbours_of, with_sets}
use Rattle.records.specs.Plan.{Plan, padded, network_of, Keeps1to5}
use Rattle.records.proofs.Lists.{padded_at}
use Rattle.links.specs.Links.{nodes_of, links_of, joins, link_between, has_link, Linked}
use Rattle.links.proofs.Links.{has_link_linked, linked_has_link, linked_exactly}
use Rattle.joined.specs.Joined.{JoinedIn}
use Rattle.plan.specs.Accepted.{plan_network, Every}
use Rattle.claims.specs.Claiming.{near_by}
use Rattle.claims.proofs.Turns.{SameLinks}
use Rattle.layout.specs.LaidOut.{lowers_in, uppers_in, wired, SameWires}
use Rattle.layout.proofs.Places.{all_nodes_lem, all_links}

-- ---- the same wires

pub wires_sym : {p q : Plan} → SameWires p q → SameWires q p
wires_sym w =
    record { rounds = sym w.rounds; starts = sym w.starts; lowers = sym w.lowers; uppers = sym w.uppers }

pub wires_trans : {p q r : Plan} → SameWires p q → SameWires q r → SameWires p r
wires_trans v w =
    record {
      rounds = w.rounds ∙ v.rounds;
      starts = w.starts ∙ v.starts;
      lowers = w.lowers ∙ v.lowers;
      uppers = w.uppers ∙ v.uppers;
    }

module _ {p q : Plan} (w : SameWires p q) where
  pub wires_nodes : length q.nodes ≡ length p.nodes
  wires_nodes =
      sym (length-map q.nodes (λ x. x.start)) ∙ ap length w.starts ∙ length-map p.nodes (λ x. x.start)

  pub wires_links : length q.links ≡ length p.links
  wires_links =
      sym (length-map q.links (λ x. x.a)) ∙ ap length w.lowers ∙ length-map p.links (λ x. x.a)

  pub wired_same : wired q ≡ wired p
  wired_same = λ i. has_link (w.lowers i) (w.uppers i) (wires_links i)

  -- "All nodes are joined through links", of the one as of the other
  pub joined_same : Every (JoinedIn (plan_network p)) (nodes_of (plan_network p)) → Every (JoinedIn (plan_network q)) (nodes_of (plan_network q))
  unfolding with_sets network_of
  joined_same = rw (w.lowers, w.uppers, wires_links, wires_nodes) (λ j. j)

-- ---- a plan's links, by its network

-- an entry of a network's list is the plan's
pub entry_in_network : {A : Type 0} (f : A → ℕ) (n : ℕ) (xs : List A) (i : ℕ) → i < length xs → get_or (padded n (map f xs)) i 0 ≡ get_or (map f xs) i 0
entry_in_network f n xs i h = padded_at n (map f xs) i (omega (arith, length-map xs f))

first_same : (s t : ℕ → Bool) (n : ℕ) → ((k : ℕ) → k < n → s k ≡ t k) → first_of s n ≡ first_of t n
unfolding first_of
first_same s t zero e = refl
first_same s t (suc n) e =
    ap₂ (λ (m : ℕ) (b : Bool). if_lt m n m (if_b b n (suc n))) (first_same s t n (λ k h. e k (omega arith))) (e n (le_refl (suc n)))

module _ (p : Plan) where
  links_padded : (x y : ℕ) → has_link (network_of p).lowers (network_of p).uppers (length p.links) x y ≡ wired p x y
  unfolding has_link link_between network_of
  links_padded x y = ap (λ k. ltb k (length p.links)) (first_same in_network in_plan (length p.links) same)
    where
      in_network : ℕ → Bool
      in_network l = joins (get_or (padded 128 (lowers_in p)) l 0) (get_or (padded 128 (uppers_in p)) l 0) x y

      in_plan : ℕ → Bool
      in_plan l = joins (get_or (lowers_in p) l 0) (get_or (uppers_in p) l 0) x y

      same : (l : ℕ) → l < length p.links → in_network l ≡ in_plan l
      same l h =
          ap₂ (λ a b. joins a b x y) (entry_in_network (λ z. z.a) 128 p.links l h) (entry_in_network (λ z. z.b) 128 p.links l h)

  -- x and y have a link in the plan exactly if they have one in its network
  pub wired_in_network : Keeps1to5 p → (x y : ℕ) → has_link (plan_network p).lowers (plan_network p).uppers (links_of (plan_network p)) x y ≡ wired p x y
  unfolding with_sets
  wired_in_network K x y =
      ap (λ n. has_link (network_of p).lowers (network_of p).uppers n x y) (all_links p K) ∙ links_padded x y

-- the neighbour sets say who has a link
neighbours_linked : (net : Network) → SameLinks (nodes_of net) (λ x y. member (neighbours_of net x) y) (has_link net.lowers net.uppers (links_of net))
neighbours_linked net x y _ h =
    same_test (member (neighbours_of net x) y) (has_link net.lowers net.uppers (links_of net) x y)
    (λ e. linked_has_link net.lowers net.uppers (links_of net) x y (sets.1 e))
    (λ e. sets.0 (has_link_linked net.lowers net.uppers (links_of net) x y e))
  where
    sets : Linked net.lowers net.uppers (links_of net) x y ↔ (member (neighbours_of net x) y ≡ true)
    sets = linked_exactly net.lowers net.uppers (links_of net) net.flags x y (omega arith)

-- as the code finds them: the sets of a plan's network tell the plan's links
pub near_is_wired : (p : Plan) → Keeps1to5 p → SameLinks (length p.nodes) (near_by (plan_network p).neighbours) (wired p)
unfolding with_sets
near_is_wired p K x y h l =
    ap (λ set. member set y) (list_at (neighbours_of (network_of p)) 64 x 0 (omega (arith, K.at_most_64_nodes)))
    ∙ neighbours_linked (plan_network p) x y (omega (arith, all_nodes_lem p K)) (omega (arith, all_nodes_lem p K))
    ∙ wired_in_network p K x y
