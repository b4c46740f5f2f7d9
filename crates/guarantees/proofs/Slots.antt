-- The slots after a packet is delivered, as arrays and as read: the slot of the direction and of the delivery's parity holds the packet's value, and
-- every other slot what it held.
-- Assumes nothing.
use Prim.Native.Nat.{ℕ, suc, ◌+◌, ◌*◌, ◌%◌, ◌<◌}
use native.Mathlib.Numerals.{add-one}
use native.Mathlib.Omega.{arith}
use native.Mathlib.Decide.{ℕ_discrete}
use mathlib.Core.Path.{◌≡◌, refl, sym, ◌∙◌, ap, ap₂, subst}
use mathlib.Core.Bool.{Bool, true, false}
use mathlib.Core.List.{List}
use lib.ListN.{get_or, set}
use lib.Seq.{get_or-set_same, get_or-set_other}
use Rattle.laws.specs.Choice.{if_b, if_lt}
use Rattle.laws.proofs.Choice.{if_b_yes, if_lt_yes, true_not_false}
use Rattle.network.specs.declared.Network.{Network}
use Rattle.network.specs.Valid.{valid_network}
use Rattle.actions.specs.Table.{does_of}
use Rattle.actions.specs.Kinds.{count_in}
use Rattle.queue.specs.declared.Head.{Head}
use Rattle.queue.specs.Queue.{head_of, queues, heard_in}
use Rattle.synchronizer.specs.declared.State.{State}
use Rattle.synchronizer.specs.Wires.{wires_of}
use Rattle.synchronizer.specs.Answer.{own_in}
use Rattle.synchronizer.specs.After.{effect_in, counted, after_in, after_of}
use Rattle.synchronizer.specs.Valid.{StateClauses, Sized}
use Rattle.automaton.specs.Actions.{same, packet_delivered, body_of}
use Rattle.automaton.specs.Global.{Global, parity}
use Rattle.automaton.specs.Answer.{packet_at_front}
use Rattle.automaton.specs.Run.{carried, after}
use Rattle.automaton.proofs.Effects.{same_eq, same_self, slot_written, slot_spared, slot_untouched}
use Rattle.guarantees.specs.Kinds.{kind_of}
use Rattle.guarantees.specs.Reading.{joins, direction_of, net_of, seated, count_of, read}
use Rattle.guarantees.proofs.Choices.{b_same, lt_same}
use Rattle.guarantees.proofs.Links.{nodes_below}
use Rattle.guarantees.proofs.Directions.{direction_below, direction_in_row, one_direction, lane_is}
use Rattle.guarantees.proofs.Waiting.{waiting_of, packet_carries, packet_head}
use Rattle.guarantees.proofs.Answers.{sorted, queue_read, own_read}

module _ (net : Network) (v : valid_network net ≡ true) (s : State) (c : StateClauses net s) (z : Sized s) (p q : ℕ) (j : joins net p q ≡ true) (e : seated net (packet_delivered p q) ≡ true) (first : packet_at_front ((read net s).queue p q) ≡ true) where
  -- the first message of the direction is a packet, and carries the load of the first place
  pub carries : (0 < get_or s.queues.lens (direction_of net p q) 0) × ((old : ℕ) → carried (waiting_of s.queues (direction_of net p q)) old ≡ get_or s.queues.loads (direction_of net p q * 2) 0)
  carries =
      packet_carries s.queues (direction_of net p q) (sorted net v s c (direction_of net p q) (direction_below net v p q j)) (sym (ap packet_at_front (queue_read net v s c p q j)) ∙ first)

  head : head_of s.queues.lens s.queues.sorts s.queues.loads (direction_of net p q) ≡ Head.Packet (get_or s.queues.loads (direction_of net p q * 2) 0)
  head =
      packet_head s.queues (direction_of net p q) (sorted net v s c (direction_of net p q) (direction_below net v p q j)) (sym (ap packet_at_front (queue_read net v s c p q j)) ∙ first)

  load : ℕ
  load = get_or s.queues.loads (direction_of net p q * 2) 0

  -- the delivery's number, and where the array has its slot
  i : ℕ
  i = suc (count_of net s (packet_delivered p q))

  x : ℕ
  x = direction_of net p q * 2 + i % 2

  slots_are : (after_of net s (kind_of (packet_delivered p q)) p q).slots ≡ set s.slots x load
  unfolding after_in effect_in counted wires_of kind_of does_of body_of heard_in i x load
  slots_are =
      (λ k. heard_in s.slots (head_of s.queues.lens s.queues.sorts s.queues.loads (lane_is net v p q j k)) (lane_is net v p q j k) (times k))
      ∙ ap (λ h. heard_in s.slots h (direction_of net p q) i) head
    where
      times : count_in s.counts (own_in (wires_of net) (kind_of (packet_delivered p q)) p q) + 1 ≡ i
      times = add-one _ ∙ ap suc (own_read net v s c (packet_delivered p q) e (nodes_below net v p q j).0)

  -- what is read of a slot, where the array of slots is l
  slot_in : List ℕ → ℕ → ℕ → ℕ → ℕ
  slot_in l p' q' h = if_b (joins net p' q') (if_lt h 2 (get_or l (direction_of net p' q' * 2 + h) 0) 0) 0

  slot_elsewhere :
      (p' q' h : ℕ) → (joins net p' q' ≡ true → h < 2 → direction_of net p' q' * 2 + h ≡ x → ⊥)
      → slot_in (set s.slots x load) p' q' h ≡ slot_in s.slots p' q' h
  unfolding slot_in
  slot_elsewhere p' q' h other =
      b_same (joins net p' q') _ _ 0 (λ j'. lt_same h 2 _ _ 0 (λ small. get_or-set_other s.slots x (direction_of net p' q' * 2 + h) load 0 (other j' small)))

  slot_here : (h : ℕ) → h ≡ parity i → slot_in (set s.slots x load) p q h ≡ load
  unfolding slot_in x parity
  slot_here h is =
      if_b_yes (joins net p q) _ 0 j
      ∙ if_lt_yes h 2 _ 0 (omega arith)
      ∙ ap (λ (k : ℕ). get_or (set s.slots x load) (direction_of net p q * 2 + k) 0) is
      ∙ get_or-set_same s.slots x load 0 (omega (arith, direction_in_row net v p q j, z.slots))

  pub slot_after : (p' q' h : ℕ) → (read net (after_of net s (kind_of (packet_delivered p q)) p q)).slot p' q' h ≡ (after (net_of net) (read net s) (packet_delivered p q)).slot p' q' h
  unfolding read slot_in i x parity load
  slot_after p' q' h = ap (λ l. slot_in l p' q' h) slots_are ∙ by (same (packet_delivered p q) (packet_delivered p' q')) refl
    where
      g : Global ℕ
      g = read net s

      at : Dec (h ≡ parity i) → slot_in (set s.slots x load) p q h ≡ (after (net_of net) g (packet_delivered p q)).slot p q h
      at (yes is) =
          slot_here h is
          ∙ sym (carries.1 (g.slot p q h))
          ∙ ap (λ l. carried l (g.slot p q h)) (sym (queue_read net v s c p q j))
          ∙ sym (slot_written (net_of net) g p q h is)
      at (no d) = slot_elsewhere p q h (λ _ small k. d (omega arith)) ∙ sym (slot_spared (net_of net) g p q h d)

      by : (t : Bool) → same (packet_delivered p q) (packet_delivered p' q') ≡ t → slot_in (set s.slots x load) p' q' h ≡ (after (net_of net) g (packet_delivered p q)).slot p' q' h
      by true is =
          let one = same_eq (packet_delivered p q) (packet_delivered p' q') is in
          let ep : p ≡ p' = cc in
          let eq : q ≡ q' = cc in
          subst (λ (y : ℕ × ℕ). slot_in (set s.slots x load) y.0 y.1 h ≡ (after (net_of net) g (packet_delivered p q)).slot y.0 y.1 h) (λ k. (ep k, eq k))
          (at (ℕ_discrete h (parity i)))
      by false o =
          slot_elsewhere p' q' h (λ j' small k. let (ep, eq) = one_direction net v p q p' q' j j' (omega arith) in true_not_false (same (packet_delivered p q) (packet_delivered p' q')) (ap (same (packet_delivered p q)) (sym (ap₂ packet_delivered ep eq)) ∙ same_self (packet_delivered p q)) o)
          ∙ sym (slot_untouched (net_of net) g p' q' h (packet_delivered p q) o)
