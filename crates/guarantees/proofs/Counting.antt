-- A taken action counts: in the arrays its own count rises by one and no other changes, since no two actions share a place; and that is what the
-- automaton says.
-- Assumes nothing.
use Prim.Native.Nat.{ℕ, suc, ◌+◌}
use native.Mathlib.Numerals.{add-one}
use native.Mathlib.Omega.{arith}
use mathlib.Core.Path.{◌≡◌, refl, sym, ◌∙◌, ap, subst}
use mathlib.Core.Bool.{Bool, true, false}
use lib.ListN.{get_or, set}
use lib.Seq.{get_or-set_same, get_or-set_other}
use Rattle.laws.proofs.Choice.{if_b_no, true_not_false}
use Rattle.network.specs.declared.Network.{Network}
use Rattle.network.specs.Valid.{valid_network}
use Rattle.actions.specs.declared.Does.{Does}
use Rattle.actions.specs.Kinds.{cell_of, count_in}
use Rattle.actions.specs.Table.{does_of}
use Rattle.actions.proofs.Cells.{cell_inside}
use Rattle.synchronizer.specs.declared.State.{State}
use Rattle.synchronizer.specs.Wires.{Wires, wires_of, lane_in}
use Rattle.synchronizer.specs.After.{effect_in, counted, after_in, after_of}
use Rattle.synchronizer.specs.Valid.{Sized}
use Rattle.automaton.specs.Actions.{Act, same, body_of}
use Rattle.automaton.specs.Run.{after}
use Rattle.automaton.proofs.Effects.{same_eq, same_self, count_raised, count_untouched}
use Rattle.guarantees.specs.Kinds.{kind_of}
use Rattle.guarantees.specs.Reading.{cell_at, net_of, seated, seat_of, count_of, read}
use Rattle.guarantees.proofs.Seats.{counter_of, seat_in_row, own_is, same_seat}
use Rattle.guarantees.proofs.Needs.{count_read}

-- what an action does besides leaves the counts
pub effect_counts : (w : Wires) (does : Does) (p d i : ℕ) (s : State) → (effect_in w does p d i s).counts ≡ s.counts
unfolding effect_in
effect_counts w Does.Starts p d i s = refl
effect_counts w Does.Counts p d i s = refl
effect_counts w Does.SendsPacket p d i s = refl
effect_counts w Does.SendsAck p d i s = refl
effect_counts w Does.TakesPacket p d i s = refl
effect_counts w Does.TakesAck p d i s = refl
effect_counts w Does.Means p d i s = refl

module _ (net : Network) (v : valid_network net ≡ true) (s : State) (z : Sized s) (a : Act) (e : seated net a ≡ true) where
  taken : State
  taken = after_of net s (kind_of a) (body_of a).p (body_of a).q

  -- the array afterwards
  counts_after : taken.counts ≡ set s.counts (cell_of (counter_of net a)) (count_in s.counts (counter_of net a) + 1)
  unfolding taken after_in counted wires_of
  counts_after =
      effect_counts (wires_of net) (does_of (kind_of a)) (body_of a).p (lane_in (wires_of net).lanes (body_of a).p (body_of a).q) _ _
      ∙ ap (λ c. set s.counts (cell_of c) (count_in s.counts c + 1)) (own_is net v a e)

  -- the action's own count
  own_rises : count_of net taken a ≡ suc (count_of net s a)
  own_rises =
      count_read net v taken a e
      ∙ ap (λ l. count_in l (counter_of net a)) counts_after
      ∙ get_or-set_same s.counts (cell_of (counter_of net a)) _ 0 (omega (arith, z.counts, cell_inside (kind_of a) (seat_of net a) (seat_in_row net v a e)))
      ∙ add-one (count_in s.counts (counter_of net a))
      ∙ ap suc (sym (count_read net v s a e))

  -- any other
  other_stays : (b : Act) → same a b ≡ false → count_of net taken b ≡ count_of net s b
  unfolding count_of
  other_stays b f = at (seated net b) refl
    where
      none : (t : State) → seated net b ≡ false → count_of net t b ≡ 0
      none t is = if_b_no (seated net b) (get_or t.counts (cell_at b (seat_of net b)) 0) 0 is

      at : (t : Bool) → seated net b ≡ t → count_of net taken b ≡ count_of net s b
      at true is =
          count_read net v taken b is
          ∙ ap (λ l. count_in l (counter_of net b)) counts_after
          ∙ get_or-set_other s.counts (cell_of (counter_of net a)) (cell_of (counter_of net b)) _ 0
          (λ x. true_not_false (same a b) (subst (λ y. same a y ≡ true) (same_seat net v a b e is (sym x)) (same_self a)) f)
          ∙ sym (count_read net v s b is)
      at false is = none taken is ∙ sym (none s is)

  pub count_after : (b : Act) → count_of net (after_of net s (kind_of a) (body_of a).p (body_of a).q) b ≡ (after (net_of net) (read net s) a).count b
  unfolding taken read
  count_after b = at (same a b) refl
    where
      at : (t : Bool) → same a b ≡ t → count_of net taken b ≡ (after (net_of net) (read net s) a).count b
      at true is =
          subst (λ x. count_of net taken x ≡ (after (net_of net) (read net s) a).count x) (same_eq a b is) (own_rises ∙ sym (count_raised (net_of net) (read net s) a))
      at false f = other_stays b f ∙ sym (count_untouched (net_of net) (read net s) a b f)
