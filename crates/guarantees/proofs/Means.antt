-- The values after an input, as an array and as read: the mean is over the same neighbours and the same slots, and no other value changes.
-- Assumes nothing.
use Prim.Native.Nat.{ℕ, suc, ◌+◌, ◌*◌, ◌%◌, ◌<◌}
use native.Mathlib.Numerals.{add-one}
use native.Mathlib.Omega.{arith}
use mathlib.Core.Path.{◌≡◌, refl, sym, ◌∙◌, ap, subst}
use mathlib.Core.Bool.{Bool, true, false}
use mathlib.Core.List.{List, map}
use lib.ListN.{get_or, set}
use lib.Seq.{get_or-set_same, get_or-set_other}
use borrow.Author.Tests.{lt-ltb}
use Rattle.laws.specs.Choice.{if_b}
use Rattle.laws.proofs.Choice.{if_b_yes, if_lt_yes, true_not_false}
use Rattle.nodeset.specs.Marks.{member, values_in}
use Rattle.nodeset.proofs.Members.{values_same}
use Rattle.network.specs.declared.Network.{Network}
use Rattle.network.specs.Valid.{valid_network}
use Rattle.network.proofs.Valid.{valid_limits}
use Rattle.laws.specs.Mean.{rule_of}
use Rattle.actions.specs.Table.{does_of}
use Rattle.actions.specs.Kinds.{count_in}
use Rattle.queue.specs.Queue.{slot_at}
use Rattle.synchronizer.specs.declared.State.{State}
use Rattle.synchronizer.specs.Wires.{wires_of, lanes_of, lane_in}
use Rattle.synchronizer.specs.Answer.{own_in}
use Rattle.synchronizer.specs.After.{mean_heard, effect_in, counted, after_in, after_of}
use Rattle.synchronizer.specs.Valid.{StateClauses, Sized}
use Rattle.automaton.specs.Actions.{same, input, body_of}
use Rattle.automaton.specs.Global.{parity}
use Rattle.automaton.specs.Run.{heard, after}
use Rattle.automaton.proofs.Effects.{same_eq, same_self, value_set, value_untouched}
use Rattle.guarantees.specs.Kinds.{kind_of}
use Rattle.guarantees.specs.Reading.{joins, net_of, names_link, seated, count_of, read}
use Rattle.guarantees.proofs.Links.{joins_back, neighbour_is, neighbours_are}
use Rattle.guarantees.proofs.Directions.{lane_is}
use Rattle.guarantees.proofs.Answers.{own_read}

module _ (net : Network) (v : valid_network net ≡ true) (s : State) (c : StateClauses net s) (z : Sized s) (p : ℕ) (below : p < net.nodes) where
  abbrev lanes : List ℕ
  lanes = lanes_of net.lowers net.uppers net.links

  -- the input's number, as the code has it
  abbrev i : ℕ
  i = count_in s.counts (own_in (wires_of net) (kind_of (input p)) p p) + 1

  times : i ≡ suc (count_of net s (input p))
  unfolding body_of seated names_link if_b
  times =
      add-one (count_in s.counts (own_in (wires_of net) (kind_of (input p)) p p))
      ∙ ap suc (own_read net v s c (input p) (lt-ltb p net.nodes below) below)

  -- what was heard from a neighbour
  slot_heard : (q : ℕ) → member (get_or net.neighbours p 0) q ≡ true → get_or s.slots (slot_at (lane_in lanes q p) i) 0 ≡ (read net s).slot q p (parity (suc (count_of net s (input p))))
  unfolding read parity
  slot_heard q m =
      let j = joins_back net v p q (sym (neighbour_is net v p q below) ∙ m) in
      (λ k. get_or s.slots (lane_is net v q p j k * 2 + times k % 2) 0)
      ∙ sym (if_b_yes (joins net q p) _ 0 j ∙ if_lt_yes (suc (count_of net s (input p)) % 2) 2 _ 0 (omega arith))

  mean : ℕ
  mean = mean_heard lanes s.slots (get_or net.neighbours p 0) p (get_or s.values p 0) i

  mean_is : mean ≡ (net_of net).rule ((read net s).value p) (heard (net_of net) (read net s) p (suc (count_of net s (input p))))
  unfolding mean mean_heard heard read net_of values_in
  mean_is =
      ap (rule_of (get_or s.values p 0))
      (values_same (λ q. get_or s.slots (slot_at (lane_in lanes q p) i) 0) (λ q. (read net s).slot q p (parity (suc (count_of net s (input p))))) (get_or net.neighbours p 0) slot_heard
      ∙ ap (map (λ q. (read net s).slot q p (parity (suc (count_of net s (input p)))))) (sym (neighbours_are net v p below)))

  pub value_after : (p' : ℕ) → (read net (after_of net s (kind_of (input p)) p p)).value p' ≡ (after (net_of net) (read net s) (input p)).value p'
  unfolding after_in effect_in counted wires_of kind_of does_of read mean
  value_after p' = by (same (input p) (input p')) refl
    where
      by : (t : Bool) → same (input p) (input p') ≡ t → get_or (set s.values p mean) p' 0 ≡ (after (net_of net) (read net s) (input p)).value p'
      by true is =
          let one = same_eq (input p) (input p') is in
          let ep : p ≡ p' = cc in
          subst (λ y. get_or (set s.values p mean) y 0 ≡ (after (net_of net) (read net s) (input p)).value y) ep
          (get_or-set_same s.values p mean 0 (omega (arith, z.values, (valid_limits net v).at_most_64_nodes)) ∙ mean_is ∙ sym (value_set (net_of net) (read net s) p))
      by false o =
          get_or-set_other s.values p p' mean 0 (λ e. true_not_false (same (input p) (input p')) (ap (λ y. same (input p) (input y)) e ∙ same_self (input p)) o)
          ∙ sym (value_untouched (net_of net) (read net s) p' (input p) o)
