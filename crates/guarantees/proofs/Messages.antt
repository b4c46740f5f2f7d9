-- The queues after an action that sends or delivers, as arrays and as read. In the arrays one direction changes, at its end or at its head, and
-- every ordered pair of joined nodes has a direction of its own; so one pair's queue changes, as in the automaton.
-- Assumes nothing.
use Prim.Native.Nat.{ℕ, ◌<◌, ◌≤◌}
use mathlib.Core.Path.{◌≡◌, refl, sym, ◌∙◌, ap, ap₂, subst}
use mathlib.Core.Bool.{Bool, true, false}
use mathlib.Core.List.{List, [], ◌∷◌, ◌++◌, tail}
use lib.ListN.{get_or}
use Rattle.laws.specs.Choice.{if_b, if_eq}
use Rattle.laws.proofs.Choice.{if_b_yes, true_not_false}
use Rattle.network.specs.declared.Network.{Network}
use Rattle.network.specs.Valid.{valid_network}
use Rattle.actions.specs.Table.{does_of}
use Rattle.queue.specs.declared.Queues.{Queues}
use Rattle.queue.specs.Queue.{queues, pushed, popped}
use Rattle.synchronizer.specs.declared.State.{State}
use Rattle.synchronizer.specs.Wires.{wires_of, lanes_of, lane_in}
use Rattle.synchronizer.specs.After.{effect_in, counted, after_in, after_of}
use Rattle.synchronizer.specs.Valid.{StateClauses, Sized}
use Rattle.automaton.specs.Actions.{Act, same, decided, packet_sent, packet_delivered, ack_sent, ack_delivered, body_of}
use Rattle.automaton.specs.Global.{Msg, packet, ack}
use Rattle.automaton.specs.Run.{on_queue, after}
use Rattle.automaton.proofs.Effects.{same_eq, same_self}
use Rattle.guarantees.specs.Kinds.{kind_of}
use Rattle.guarantees.specs.Reading.{joins, direction_of, net_of, message_of, waiting_in, read}
use Rattle.guarantees.proofs.Directions.{direction_below, direction_in_row, one_direction, lane_is}
use Rattle.guarantees.proofs.Waiting.{waiting_of, push_here, push_there, pop_here, pop_there}

module _ (net : Network) (v : valid_network net ≡ true) (s : State) (c : StateClauses net s) (z : Sized s) where
  line : Queues
  line = s.queues

  short : (p q : ℕ) → joins net p q ≡ true → get_or s.queues.lens (direction_of net p q) 0 ≤ 2
  short p q j = c.queues.at_most_two (direction_of net p q) (direction_below net v p q j)

  -- A queue that changes by f in one direction, and in no other, is read as one that changes between one pair of nodes: those that the action
  -- of that sort names.
  moved :
      (sort : ℕ → ℕ → Act) → ((p q : ℕ) → ((body_of (sort p q)).p ≡ p) × ((body_of (sort p q)).q ≡ q)) → (s' : State) (p q : ℕ) → joins net p q ≡ true
      → (f : ℕ → List (Msg ℕ) → List (Msg ℕ)) → waiting_in s' (direction_of net p q) ≡ f p (waiting_in s (direction_of net p q))
      → ((d : ℕ) → (d ≡ direction_of net p q → ⊥) → get_or s.queues.lens d 0 ≤ 2 → waiting_in s' d ≡ waiting_in s d)
      → (p' q' : ℕ) → (read net s').queue p' q' ≡ if_b (same (sort p q) (sort p' q')) (f p') (λ l. l) ((read net s).queue p' q')
  unfolding read if_b
  moved sort names s' p q j f here there p' q' = by (same (sort p q) (sort p' q')) refl
    where
      at : (t : Bool) → joins net p' q' ≡ t → same (sort p q) (sort p' q') ≡ false → if_b t (waiting_in s' (direction_of net p' q')) [] ≡ if_b t (waiting_in s (direction_of net p' q')) []
      at true j' o =
          there (direction_of net p' q')
          (λ e. let (ep, eq) = one_direction net v p q p' q' j j' (sym e) in true_not_false (same (sort p q) (sort p' q')) (ap (same (sort p q)) (sym (ap₂ sort ep eq)) ∙ same_self (sort p q)) o)
          (short p' q' j')
      at false _ o = refl

      by : (t : Bool) → same (sort p q) (sort p' q') ≡ t → (read net s').queue p' q' ≡ if_b t (f p') (λ l. l) ((read net s).queue p' q')
      by true e =
          let one = same_eq (sort p q) (sort p' q') e in
          let ep : p ≡ p' = sym (names p q).0 ∙ ap (λ a. (body_of a).p) one ∙ (names p' q').0 in
          let eq : q ≡ q' = sym (names p q).1 ∙ ap (λ a. (body_of a).q) one ∙ (names p' q').1 in
          subst (λ (x : ℕ × ℕ). if_b (joins net x.0 x.1) (waiting_in s' (direction_of net x.0 x.1)) [] ≡ f x.0 (if_b (joins net x.0 x.1) (waiting_in s (direction_of net x.0 x.1)) []))
          (λ i. (ep i, eq i))
          (if_b_yes (joins net p q) _ [] j ∙ here ∙ ap (f p) (sym (if_b_yes (joins net p q) _ [] j)))
      by false o = at (joins net p' q') refl o

  module _ (p q : ℕ) (j : joins net p q ≡ true) where
    -- the code's direction
    abbrev lane : ℕ
    lane = lane_in (lanes_of net.lowers net.uppers net.links) p q

    module _ (sort load : ℕ) (room : get_or s.queues.lens (direction_of net p q) 0 < 2) where
      joins_here : waiting_of (pushed line lane sort load) (direction_of net p q) ≡ waiting_of line (direction_of net p q) ++ message_of sort load ∷ []
      unfolding line
      joins_here =
          ap (λ e. waiting_of (pushed line e sort load) (direction_of net p q)) (lane_is net v p q j)
          ∙ push_here line (direction_of net p q) (direction_in_row net v p q j) z.lens z.sorts z.loads sort load room

      joins_there : (d : ℕ) → (d ≡ direction_of net p q → ⊥) → get_or s.queues.lens d 0 ≤ 2 → waiting_of (pushed line lane sort load) d ≡ waiting_of line d
      unfolding line
      joins_there d other two =
          ap (λ e. waiting_of (pushed line e sort load) d) (lane_is net v p q j)
          ∙ push_there line (direction_of net p q) (direction_in_row net v p q j) z.lens z.sorts z.loads sort load room d other two

    module _ (some : 0 < get_or s.queues.lens (direction_of net p q) 0) where
      leaves_here : waiting_of (popped line lane) (direction_of net p q) ≡ tail (waiting_of line (direction_of net p q))
      unfolding line
      leaves_here =
          ap (λ e. waiting_of (popped line e) (direction_of net p q)) (lane_is net v p q j)
          ∙ pop_here line (direction_of net p q) (direction_in_row net v p q j) z.lens z.sorts z.loads some (short p q j)

      leaves_there : (d : ℕ) → (d ≡ direction_of net p q → ⊥) → get_or s.queues.lens d 0 ≤ 2 → waiting_of (popped line lane) d ≡ waiting_of line d
      unfolding line
      leaves_there d other two =
          ap (λ e. waiting_of (popped line e) d) (lane_is net v p q j)
          ∙ pop_there line (direction_of net p q) (direction_in_row net v p q j) z.lens z.sorts z.loads some d other two

    -- every queue after the action, in the arrays as in the automaton
    abbrev pub SameQueues : Act → Type 0
    SameQueues a = (p' q' : ℕ) → (read net (after_of net s (kind_of a) p q)).queue p' q' ≡ (after (net_of net) (read net s) a).queue p' q'

    pub packet_joins_lem : get_or s.queues.lens (direction_of net p q) 0 < 2 → SameQueues (packet_sent p q)
    unfolding after_in effect_in counted wires_of kind_of does_of body_of read waiting_in message_of if_eq after on_queue same decided if_b line
    packet_joins_lem room =
        moved packet_sent (λ _ _. (refl, refl)) (after_of net s (kind_of (packet_sent p q)) p q) p q j (λ x l. l ++ packet (get_or s.values x 0) ∷ []) (joins_here 1 (get_or s.values p 0) room) (joins_there 1 (get_or s.values p 0) room)

    pub ack_joins_lem : get_or s.queues.lens (direction_of net p q) 0 < 2 → SameQueues (ack_sent p q)
    unfolding after_in effect_in counted wires_of kind_of does_of body_of read waiting_in message_of if_eq after on_queue same decided if_b line
    ack_joins_lem room =
        moved ack_sent (λ _ _. (refl, refl)) (after_of net s (kind_of (ack_sent p q)) p q) p q j (λ _ l. l ++ ack ∷ []) (joins_here 2 0 room) (joins_there 2 0 room)

    pub packet_leaves_lem : 0 < get_or s.queues.lens (direction_of net p q) 0 → SameQueues (packet_delivered p q)
    unfolding after_in effect_in counted wires_of kind_of does_of body_of read waiting_in after on_queue same decided if_b line
    packet_leaves_lem some =
        moved packet_delivered (λ _ _. (refl, refl)) (after_of net s (kind_of (packet_delivered p q)) p q) p q j (λ _. tail) (leaves_here some) (leaves_there some)

    pub ack_leaves_lem : 0 < get_or s.queues.lens (direction_of net p q) 0 → SameQueues (ack_delivered p q)
    unfolding after_in effect_in counted wires_of kind_of does_of body_of read waiting_in after on_queue same decided if_b line
    ack_leaves_lem some =
        moved ack_delivered (λ _ _. (refl, refl)) (after_of net s (kind_of (ack_delivered p q)) p q) p q j (λ _. tail) (leaves_here some) (leaves_there some)
