-- An accepted plan's network, read as the automaton's, is what demand 3 asks of a network: each part is the plan check that document 01 makes.
-- Assumes nothing.
use Prim.Native.Nat.{ℕ, zero, suc}
use mathlib.Core.Path.{◌≡◌, refl, sym, ◌∙◌, subst}
use mathlib.Core.Bool.{true}
use mathlib.Core.List.{List}
use lib.ListN.{get_or}
use Rattle.network.specs.declared.Network.{Network}
use Rattle.network.specs.Valid.{valid_network}
use Rattle.tree.specs.Climb as tree
use Rattle.automaton.specs.Clusters.{climb, root_of}
use Rattle.automaton.specs.Accepted as automaton
use Rattle.plan.specs.Accepted.{Accepted}
use Rattle.plan.proofs.Valid.{accepted_is_valid}
use Rattle.plan.proofs.Consequences.{PreferredAcross, parent_in_range, root_is_own_parent, preferred_across, preferred_symmetric}
use Rattle.guarantees.specs.Reading.{net_of}
use Rattle.guarantees.proofs.Links.{nodes_below, joins_back, neighbour_is, preferred_is}

-- the two walks along the parents are one
climb_is : (net : Network) (k p : ℕ) → climb (net_of net) k p ≡ tree.climb (tree.parent_in net.parents) k p
unfolding net_of climb tree.climb
climb_is net zero p = refl
climb_is net (suc k) p = climb_is net k (get_or net.parents p 0)

pub root_is : (net : Network) (p : ℕ) → root_of (net_of net) p ≡ tree.root_of (tree.parent_in net.parents) net.nodes p
unfolding net_of root_of tree.root_of
root_is net p = climb_is net net.nodes p

module _ {s : List ℕ} {n : ℕ} (net : Network) (A : Accepted s n net) where
  valid : valid_network net ≡ true
  valid = accepted_is_valid A

  -- a preferred link of the plan, as the automaton sees it
  joining : (x y : ℕ) → PreferredAcross net x y → automaton.Joining (net_of net) x y
  unfolding net_of
  joining x y c =
      record {
        u = c.near;
        v = c.far;
        preferred = sym (preferred_is net valid c.near c.far c.near_below) ∙ c.preferred_link;
        u_below = c.near_below;
        v_below = (preferred_symmetric net A c.near c.far c.near_below c.preferred_link).0;
        u_side = root_is net c.near ∙ c.with_p ∙ sym (root_is net x);
        v_side = root_is net c.far ∙ c.with_q ∙ sym (root_is net y);
      }

  pub plan_accepted : automaton.Accepted (net_of net)
  unfolding net_of
  plan_accepted =
      record {
        parent_below = parent_in_range net A;
        root_reached = λ p h. subst (λ r. get_or net.parents r 0 ≡ r) (sym (root_is net p)) (root_is_own_parent net A p h).own_parent;
        both_ways = joins_back net valid;
        joining = λ x y l d. joining x y (preferred_across net A x y (nodes_below net valid x y l).0 (neighbour_is net valid x y (nodes_below net valid x y l).0 ∙ l) (λ e. d (root_is net x ∙ e ∙ sym (root_is net y))));
      }
