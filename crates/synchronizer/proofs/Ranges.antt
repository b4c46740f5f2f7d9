-- What 17 has looked at bounds the tables that the actions go by; and what an entry point answers where it passes and where not.
-- Assumes nothing.
use Prim.Native.Nat.{ℕ, suc, ◌≤◌}
use native.Mathlib.Omega.{arith}
use mathlib.Core.Path.{◌≡◌, sym, ◌∙◌}
use mathlib.Core.Bool.{true, false}
use mathlib.Core.List.{List}
use lib.ListN.{length}
use Rattle.laws.proofs.Choice.{both_left, if_b_yes, if_b_no}
use Rattle.network.specs.declared.Network.{Network}
use Rattle.network.specs.Valid.{valid_network, Limits, Ranges}
use Rattle.network.proofs.Valid.{valid_limits, valid_ranges}
use Rattle.actions.specs.declared.Kind.{Kind}
use Rattle.synchronizer.specs.declared.State.{State}
use Rattle.synchronizer.specs.declared.Done.{Done}
use Rattle.synchronizer.specs.declared.Acted.{Acted}
use Rattle.synchronizer.specs.declared.Ran.{Ran}
use Rattle.synchronizer.specs.Wires.{wires_of, Below64}
use Rattle.synchronizer.specs.Valid.{valid_state}
use Rattle.synchronizer.specs.Entry.{done, acted, ran, in_range, done_in, done_of, act_in, act_of, list_from, list_of}

-- a network in its ranges fits the tables
module _ (net : Network) (v : valid_network net ≡ true) where
  limits : Limits net
  limits = valid_limits net v

  ranges : Ranges net
  ranges = valid_ranges net v

  pub nodes_fit : net.nodes ≤ 64
  nodes_fit = limits.at_most_64_nodes

  pub links_fit : net.links ≤ 128
  links_fit = limits.at_most_128_links

  pub parents_fit : Below64 net.parents net.nodes
  parents_fit p h = omega (arith, ranges.parent_below_lem p h, nodes_fit)

  pub lowers_fit : Below64 net.lowers net.links
  lowers_fit l h = omega (arith, ranges.lower_below l h, nodes_fit)

  pub uppers_fit : Below64 net.uppers net.links
  uppers_fit l h = omega (arith, ranges.upper_below l h, nodes_fit)

module _ (net : Network) (s : State) where
  module _ (ok : in_range net s ≡ true) where
    pub valid_there : valid_network net ≡ true
    unfolding in_range
    valid_there = both_left (valid_network net) (valid_state net s) ok

    pub method_answers : (k : Kind) (p q : ℕ) (d : Done) → d ≡ done_in (wires_of net) s k p q → d ≡ done_of net s k p q
    unfolding done_of
    method_answers k p q d h = h ∙ sym (if_b_yes (in_range net s) (done_in (wires_of net) s k p q) (done 17 s) ok)

    pub action_answers : (bytes : List ℕ) (a : Acted) → a ≡ act_in (wires_of net) s bytes 0 → a ≡ act_of net s bytes
    unfolding act_of
    action_answers bytes a h = h ∙ sym (if_b_yes (in_range net s) (act_in (wires_of net) s bytes 0) (acted 17 0 s) ok)

    pub list_answers : (bytes : List ℕ) (r : Ran) → r ≡ list_from (suc (length bytes)) (wires_of net) s bytes 0 0 → r ≡ list_of net s bytes
    unfolding list_of
    list_answers bytes r h =
        h ∙ sym (if_b_yes (in_range net s) (list_from (suc (length bytes)) (wires_of net) s bytes 0 0) (ran 17 0 0 s) ok)

  -- 17
  module _ (out : in_range net s ≡ false) where
    pub method_17 : (k : Kind) (p q : ℕ) → done 17 s ≡ done_of net s k p q
    unfolding done_of
    method_17 k p q = sym (if_b_no (in_range net s) (done_in (wires_of net) s k p q) (done 17 s) out)

    pub action_17 : (bytes : List ℕ) → acted 17 0 s ≡ act_of net s bytes
    unfolding act_of
    action_17 bytes = sym (if_b_no (in_range net s) (act_in (wires_of net) s bytes 0) (acted 17 0 s) out)

    pub list_17 : (bytes : List ℕ) → ran 17 0 0 s ≡ list_of net s bytes
    unfolding list_of
    list_17 bytes =
        sym (if_b_no (in_range net s) (list_from (suc (length bytes)) (wires_of net) s bytes 0 0) (ran 17 0 0 s) out)
