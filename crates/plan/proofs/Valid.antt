-- The network of a plan that keeps every rule passes the validity test of 17: rules 1 to 5 give the limits, the links' ranges and order and the
-- zeros past the counts, check 6 the parents' range, and the sets are those that the lists give.
-- Assumes nothing.
use Prim.Native.Nat.{ℕ, ◌<◌}
use native.Mathlib.Omega.{arith}
use mathlib.Core.Path.{◌≡◌, ◌∙◌}
use mathlib.Core.Bool.{true}
use mathlib.Core.List.{List}
use lib.ListN.{get_or}
use Rattle.laws.proofs.Below.{list_at}
use Rattle.network.specs.declared.Network.{Network}
use Rattle.network.specs.Sets.{neighbours_of, children_of, preferred_of, with_sets}
use Rattle.network.specs.Valid.{valid_network, Limits, Ranges, Order, Derived, Rest, Clauses}
use Rattle.network.proofs.Valid.{no_links_past, no_children_past, clauses_valid}
use Rattle.records.specs.Plan.{Plan, network_of, Keeps1to5}
use Rattle.records.proofs.Kept.{kept_limits, kept_ends, kept_flags, kept_order, no_parent_past, no_start_past, no_lower_past, no_upper_past, no_flag_past}
use Rattle.links.proofs.Breach.{none_exactly}
use Rattle.tree.proofs.Checks.{untied_is_breach, parent_below_lem}
use Rattle.plan.specs.Accepted.{plan_network, Keeps6to10, Accepted}

module _ (p : Plan) (K : Keeps1to5 p) (W : Keeps6to10 (plan_network p)) where
  limits : Limits (plan_network p)
  unfolding with_sets
  limits =
      let L = kept_limits p K in
      record {
        some_node = L.some_node;
        at_most_64_nodes = L.at_most_64_nodes;
        at_most_128_links = L.at_most_128_links;
        some_round = L.some_round;
        at_most_10000_rounds = L.at_most_10000_rounds;
      }

  ranges : Ranges (plan_network p)
  unfolding with_sets
  ranges =
      let L = kept_limits p K in
      record {
        parent_below_lem = λ q h. omega (arith, parent_below_lem (plan_network p) ((none_exactly (untied_is_breach (plan_network p))).1 W.tied) q (omega (arith, L.at_most_64_nodes)), L.at_most_64_nodes);
        lower_below = λ l h. omega (arith, kept_ends p K l h);
        upper_below = λ l h. (kept_ends p K l h).1;
        flag_at_most_1 = kept_flags p K;
      }

  order : Order (plan_network p)
  unfolding with_sets
  order = record { ends_rise = (kept_order p K).ends_rise; links_rise = (kept_order p K).links_rise }

  -- the sets of the first 64 places are what the lists give
  neighbours_given : (q : ℕ) → q < 64 → get_or (plan_network p).neighbours q 0 ≡ neighbours_of (plan_network p) q
  unfolding with_sets
  neighbours_given q h = list_at (neighbours_of (network_of p)) 64 q 0 h

  children_given : (q : ℕ) → q < 64 → get_or (plan_network p).children q 0 ≡ children_of (plan_network p) q
  unfolding with_sets
  children_given q h = list_at (children_of (network_of p)) 64 q 0 h

  preferred_given : (q : ℕ) → q < 64 → get_or (plan_network p).preferred q 0 ≡ preferred_of (plan_network p) q
  unfolding with_sets
  preferred_given q h = list_at (preferred_of (network_of p)) 64 q 0 h

  derived : Derived (plan_network p)
  derived =
      record {
        neighbours_agree = λ q h. neighbours_given q (omega (arith, limits.at_most_64_nodes));
        children_agree = λ q h. children_given q (omega (arith, limits.at_most_64_nodes));
        preferred_agree = λ q h. preferred_given q (omega (arith, limits.at_most_64_nodes));
      }

  rest : Rest (plan_network p)
  unfolding with_sets
  rest =
      record {
        no_parent = λ q h _. no_parent_past p q h;
        no_start = λ q h _. no_start_past p q h;
        no_neighbours = λ q h l. neighbours_given q l ∙ no_links_past (plan_network p) limits ranges 0 q h;
        no_children = λ q h l. children_given q l ∙ no_children_past (plan_network p) limits ranges q h;
        no_preferred = λ q h l. preferred_given q l ∙ no_links_past (plan_network p) limits ranges 1 q h;
        no_lower = λ l h _. no_lower_past p l h;
        no_upper = λ l h _. no_upper_past p l h;
        no_flag = λ l h _. no_flag_past p l h;
      }

  pub plan_clauses : Clauses (plan_network p)
  plan_clauses = record { limits = limits; ranges = ranges; order = order; derived = derived; rest = rest }

-- an accepted network is within the ranges of 17, and passes its test
pub accepted_clauses : {s : List ℕ} {n : ℕ} {net : Network} → Accepted s n net → Clauses net
accepted_clauses A = rw A.network (plan_clauses A.plan A.keeps_records A.keeps_whole)

pub accepted_is_valid : {s : List ℕ} {n : ℕ} {net : Network} → Accepted s n net → valid_network net ≡ true
accepted_is_valid {net} A = clauses_valid net (accepted_clauses A)
