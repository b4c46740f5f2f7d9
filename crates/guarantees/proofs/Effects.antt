-- What a taken action does besides counting, it does in the arrays as in the automaton. Five actions do something: two send, two deliver, one is an
-- input (`doing`); each changes what it names and nothing else.
-- Assumes nothing.
use Prim.Native.Nat.{ℕ, ◌+◌, ◌<◌}
use native.Mathlib.Omega.{arith}
use mathlib.Core.Path.{◌≡◌, refl, sym, ◌∙◌, ap, subst}
use mathlib.Core.Bool.{true, false, false≢true}
use mathlib.Core.List.{List}
use lib.Dec.{ltb}
use lib.ListN.{length, get_or}
use borrow.Author.Tests.{ltb-true}
use Rattle.laws.specs.Choice.{if_b}
use Rattle.laws.proofs.Choice.{if_b_yes, not_true_false, true_not_false}
use Rattle.laws.proofs.Below.{length_list}
use Rattle.network.specs.declared.Network.{Network}
use Rattle.network.specs.Valid.{valid_network}
use Rattle.actions.specs.declared.Does.{Does}
use Rattle.actions.specs.Table.{does_of}
use Rattle.actions.specs.Kinds.{count_in}
use Rattle.queue.specs.Queue.{queues}
use Rattle.synchronizer.specs.declared.State.{State}
use Rattle.synchronizer.specs.Wires.{Wires, wires_of}
use Rattle.synchronizer.specs.Answer.{own_in}
use Rattle.synchronizer.specs.After.{effect_in, counted, after_in, after_of}
use Rattle.synchronizer.specs.Valid.{StateClauses, Sized}
use Rattle.automaton.specs.Actions.{Act, same, decided, packet_sent, packet_delivered, ack_sent, ack_delivered, input, body_of}
use Rattle.automaton.specs.Needs.{needs_of}
use Rattle.automaton.specs.Global.{Msg, Global}
use Rattle.automaton.specs.Answer.{sends, ack_at_front, met, room}
use Rattle.automaton.specs.Run.{on_queue, on_slot, on_value, after}
use Rattle.automaton.proofs.Effects.{same_eq, slot_untouched, value_untouched}
use Rattle.automaton.proofs.Order.{enabled_met}
use Rattle.automaton.proofs.Runs.{Allowed}
use Rattle.guarantees.specs.Kinds.{kind_of}
use Rattle.guarantees.specs.Reading.{joins, direction_of, net_of, names_link, seated, waiting_in, read}
use Rattle.guarantees.proofs.Tables.{sends_one, row_of, quiet, Doing, packet_joins, packet_leaves, ack_joins, ack_leaves, means, nothing}
use Rattle.guarantees.proofs.Waiting.{ack_waits}
use Rattle.guarantees.proofs.Answers.{queue_read}
use Rattle.guarantees.proofs.Messages.{packet_joins_lem, ack_joins_lem, packet_leaves_lem, ack_leaves_lem}
use Rattle.guarantees.proofs.Slots.{carries, slot_after}
use Rattle.guarantees.proofs.Means.{value_after}

-- the state that is read has these queues, slots and values
pub record Holding (net : Network) (s : State) (g : Global ℕ) : Type 0 where
  pub queue : (p q : ℕ) → (read net s).queue p q ≡ g.queue p q
  pub slot : (p q h : ℕ) → (read net s).slot p q h ≡ g.slot p q h
  pub value : (p : ℕ) → (read net s).value p ≡ g.value p

-- ---- the actions that only count

still : (w : Wires) (does : Does) (p d i : ℕ) (s : State) → quiet does ≡ true → effect_in w does p d i s ≡ s
unfolding quiet effect_in
still w Does.Starts p d i s e = refl
still w Does.Counts p d i s e = refl
still w Does.SendsPacket p d i s e = absurd (false≢true e)
still w Does.SendsAck p d i s e = absurd (false≢true e)
still w Does.TakesPacket p d i s e = absurd (false≢true e)
still w Does.TakesAck p d i s e = absurd (false≢true e)
still w Does.Means p d i s e = absurd (false≢true e)

-- an action that only counts is none that does more
other_than : (a b : Act) → quiet (does_of (kind_of a)) ≡ true → quiet (does_of (kind_of b)) ≡ false → same a b ≡ false
other_than a b e f =
    not_true_false (same a b) (λ t. true_not_false (quiet (does_of (kind_of a))) e (ap (λ x. quiet (does_of (kind_of x))) (same_eq a b t) ∙ f))

-- an action that is none of the four leaves a queue
queue_untouched :
    (g : Global ℕ) (a : Act) (p q : ℕ) (l : List (Msg ℕ)) → same a (packet_sent p q) ≡ false → same a (ack_sent p q) ≡ false
    → same a (packet_delivered p q) ≡ false → same a (ack_delivered p q) ≡ false → on_queue g a p q l ≡ l
unfolding on_queue if_b
queue_untouched g a p q l e1 e2 e3 e4 = rw (e1, e2, e3, e4) refl

module _ (net : Network) (v : valid_network net ≡ true) (s : State) where
  -- the state with the action's count raised, and nothing else done
  raised : Act → State
  raised a =
      counted (wires_of net) s (own_in (wires_of net) (kind_of a) (body_of a).p (body_of a).q) (count_in s.counts (own_in (wires_of net) (kind_of a) (body_of a).p (body_of a).q) + 1)

  quiet_after : (a : Act) → quiet (does_of (kind_of a)) ≡ true → after_of net s (kind_of a) (body_of a).p (body_of a).q ≡ raised a
  unfolding after_in raised
  quiet_after a e = still (wires_of net) (does_of (kind_of a)) (body_of a).p _ _ (raised a) e

  quiet_holds : (a : Act) → quiet (does_of (kind_of a)) ≡ true → Holding net (after_of net s (kind_of a) (body_of a).p (body_of a).q) (after (net_of net) (read net s) a)
  unfolding counted raised quiet does_of kind_of read waiting_in after
  quiet_holds a e =
      subst (λ x. Holding net x (after (net_of net) (read net s) a)) (sym (quiet_after a e))
      (record {
        queue = λ p q. sym (queue_untouched (read net s) a p q _ (other_than a (packet_sent p q) e refl) (other_than a (ack_sent p q) e refl) (other_than a (packet_delivered p q) e refl) (other_than a (ack_delivered p q) e refl));
        slot = λ p q h. sym (slot_untouched (net_of net) (read net s) p q h a (other_than a (packet_delivered p q) e refl));
        value = λ p. sym (value_untouched (net_of net) (read net s) p a (other_than a (input p) e refl));
      })

  -- ---- every action

  module _ (c : StateClauses net s) (z : Sized s) where
    -- a send that is not refused by 18 finds room
    room_left : (a : Act) → sends_one (does_of (kind_of a)) ≡ true → joins net (body_of a).p (body_of a).q ≡ true → room (read net s) a ≡ true → get_or s.queues.lens (direction_of net (body_of a).p (body_of a).q) 0 < 2
    unfolding room
    room_left a sending j space =
        let shorter : ltb (length ((read net s).queue (body_of a).p (body_of a).q)) 2 ≡ true = sym (if_b_yes (sends a (body_of a).p (body_of a).q) _ true ((row_of a).sending ∙ sending)) ∙ space in
        let long : length ((read net s).queue (body_of a).p (body_of a).q) ≡ get_or s.queues.lens (direction_of net (body_of a).p (body_of a).q) 0 = ap length (queue_read net v s c (body_of a).p (body_of a).q j) ∙ length_list _ _ in
        omega (arith, ltb-true (length ((read net s).queue (body_of a).p (body_of a).q)) 2 shorter)

    -- a delivery of an ack that is enabled finds one
    ack_there : (p q : ℕ) → joins net p q ≡ true → ack_at_front ((read net s).queue p q) ≡ true → 0 < get_or s.queues.lens (direction_of net p q) 0
    ack_there p q j first =
        ack_waits s.queues (direction_of net p q) (sym (ap ack_at_front (queue_read net v s c p q j)) ∙ first)

    pub effect_holds :
        {a : Act} → Doing a → seated net a ≡ true → Allowed (net_of net) (read net s) a → room (read net s) a ≡ true
        → Holding net (after_of net s (kind_of a) (body_of a).p (body_of a).q) (after (net_of net) (read net s) a)
    unfolding body_of seated names_link if_b sends_one does_of kind_of needs_of met after_in effect_in counted read waiting_in after on_queue on_slot on_value same decided
    effect_holds (packet_joins p q) e allowed space =
        record {
          queue = packet_joins_lem net v s c z p q e (room_left (packet_sent p q) refl e space);
          slot = λ _ _ _. refl;
          value = λ _. refl;
        }
    effect_holds (packet_leaves p q) e allowed space =
        let first = (enabled_met (net_of net) (read net s) (packet_delivered p q) allowed.is_enabled).1.0 in
        record {
          queue = packet_leaves_lem net v s c z p q e (carries net v s c z p q e e first).0;
          slot = slot_after net v s c z p q e e first;
          value = λ _. refl;
        }
    effect_holds (ack_joins p q) e allowed space =
        record {
          queue = ack_joins_lem net v s c z p q e (room_left (ack_sent p q) refl e space);
          slot = λ _ _ _. refl;
          value = λ _. refl;
        }
    effect_holds (ack_leaves p q) e allowed space =
        record {
          queue = ack_leaves_lem net v s c z p q e (ack_there p q e (enabled_met (net_of net) (read net s) (ack_delivered p q) allowed.is_enabled).1.0);
          slot = λ _ _ _. refl;
          value = λ _. refl;
        }
    effect_holds (means p) e allowed space =
        record { queue = λ _ _. refl; slot = λ _ _ _. refl; value = value_after net v s c z p (ltb-true p net.nodes e) }
    effect_holds {a} (nothing q) e allowed space = quiet_holds a q
