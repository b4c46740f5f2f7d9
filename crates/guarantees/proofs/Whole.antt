-- The reading leaves nothing out: two valid states with one reading are one state. Every entry in use is read (each node, and each direction of each
-- link, is that of some nodes below the node count), and 17 has every other entry 0. So nothing that is not read can change, or be carried along.
-- Assumes nothing.
use Prim.Native.Nat.{ℕ, ◌+◌, ◌-◌, ◌*◌, ◌/◌, ◌%◌, ◌<◌, ◌≤◌}
use native.Mathlib.Omega.{arith}
use native.Mathlib.Decide.{dec_lt}
use mathlib.Core.Path.{◌≡◌, refl, sym, ◌∙◌, ap, subst}
use mathlib.Core.Bool.{Bool, true, false}
use mathlib.Core.List.{List, []}
use mathlib.Core.Logic.{◌⊎◌, inl, inr}
use lib.ListN.{length, get_or}
use lib.Seq.{ext_get_or}
use borrow.Author.Tests.{lt-ltb}
use Rattle.laws.specs.Choice.{if_b, if_eq}
use Rattle.laws.proofs.Choice.{if_b_yes, if_lt_yes, if_eq_yes, if_eq_no}
use Rattle.laws.proofs.Below.{length_list, list_at}
use Rattle.network.specs.declared.Network.{Network}
use Rattle.network.specs.Valid.{valid_network}
use Rattle.actions.specs.declared.Kind.{Kind}
use Rattle.actions.specs.declared.Place.{Place}
use Rattle.actions.specs.Kinds.{kinds, number_of, index_of, kind_at, count, cell_of, count_in}
use Rattle.actions.specs.Table.{place_of}
use Rattle.actions.specs.Records.{names_of}
use Rattle.actions.specs.Records as Records
use Rattle.actions.proofs.Numbers.{number_at}
use Rattle.ranges.specs.Fits.{used_by}
use Rattle.synchronizer.specs.declared.State.{State}
use Rattle.synchronizer.specs.Valid.{valid_state, StateClauses, Sized}
use Rattle.synchronizer.proofs.States.{valid_state_clauses}
use Rattle.automaton.specs.Actions.{Act}
use Rattle.automaton.specs.Global.{packet, ack}
use Rattle.guarantees.specs.Reading.{joins, names_link, seated, message_of, waiting_in, read}
use Rattle.guarantees.proofs.Directions.{direction_of_lem}
use Rattle.guarantees.proofs.Tables.{action_of, place_as}
use Rattle.guarantees.proofs.Seats.{counter_of, seat_of_link, seated_link, seat_of_node, seated_node}
use Rattle.guarantees.proofs.Needs.{count_read}

-- how many counts of a kind are in use
pub used_is : (nodes links : ℕ) (k : Kind) → used_by nodes links k ≡ if_b (names_link (place_as (place_of k))) (links * 2) nodes
unfolding used_by Records.body_of names_of names_link place_as if_b if_eq
used_is nodes links k = at (place_of k)
  where
    at : (w : Place) → if_eq (names_of w) 1 nodes (links * 2) ≡ if_b (names_link (place_as w)) (links * 2) nodes
    at Place.Node = refl
    at Place.Link = refl
    at Place.PreferredLink = refl
    at Place.Child = refl
    at Place.Root = refl

module _ (net : Network) (v : valid_network net ≡ true) (s t : State) (same : read net s ≡ read net t) where
  -- ---- what is in use is read

  count_same : (k : Kind) (x : ℕ) → x < used_by net.nodes net.links k → count_in s.counts (count k x) ≡ count_in t.counts (count k x)
  unfolding read if_b
  count_same k x used = by (names_link (place_as (place_of k))) refl (rw (used_is net.nodes net.links k) at used)
    where
      -- through an action whose count this is
      through : (a : Act) → seated net a ≡ true → counter_of net a ≡ count k x → count_in s.counts (count k x) ≡ count_in t.counts (count k x)
      through a is at =
          ap (count_in s.counts) (sym at) ∙ sym (count_read net v s a is) ∙ ap (λ g. g.count a) same ∙ count_read net v t a is ∙ ap (count_in t.counts) at

      by : (b : Bool) → names_link (place_as (place_of k)) ≡ b → x < if_b b (net.links * 2) net.nodes → count_in s.counts (count k x) ≡ count_in t.counts (count k x)
      by true e h =
          let (p, q, j, d) = direction_of_lem net v x h in
          through (action_of k p q) (seated_link net k p q e ∙ j) (seat_of_link net k p q e ∙ ap (count k) d)
      by false e h = through (action_of k x x) (seated_node net k x x e ∙ lt-ltb x net.nodes h) (seat_of_node net k x x e)

  queue_same : (d : ℕ) → d < net.links * 2 → waiting_in s d ≡ waiting_in t d
  unfolding read
  queue_same d h =
      let (p, q, j, e) = direction_of_lem net v d h in
      subst (λ x. waiting_in s x ≡ waiting_in t x) e
      (sym (if_b_yes (joins net p q) _ [] j) ∙ ap (λ g. g.queue p q) same ∙ if_b_yes (joins net p q) _ [] j)

  slot_same : (d h : ℕ) → d < net.links * 2 → h < 2 → get_or s.slots (d * 2 + h) 0 ≡ get_or t.slots (d * 2 + h) 0
  unfolding read
  slot_same d h used small =
      let (p, q, j, e) = direction_of_lem net v d used in
      subst (λ x. get_or s.slots (x * 2 + h) 0 ≡ get_or t.slots (x * 2 + h) 0) e
      (sym (if_b_yes (joins net p q) _ 0 j ∙ if_lt_yes h 2 _ 0 small) ∙ ap (λ g. g.slot p q h) same ∙ if_b_yes (joins net p q) _ 0 j ∙ if_lt_yes h 2 _ 0 small)

  length_same : (d : ℕ) → d < net.links * 2 → get_or s.queues.lens d 0 ≡ get_or t.queues.lens d 0
  unfolding waiting_in
  length_same d h = sym (length_list _ _) ∙ ap length (queue_same d h) ∙ length_list _ _

  module _ (cs : StateClauses net s) (ct : StateClauses net t) where
    -- ---- and the rest is 0

    lens_same : (d : ℕ) → d < 256 → get_or s.queues.lens d 0 ≡ get_or t.queues.lens d 0
    lens_same d h = at (dec_lt d (net.links * 2))
      where
        at : Dec (d < net.links * 2) → get_or s.queues.lens d 0 ≡ get_or t.queues.lens d 0
        at (yes used) = length_same d used
        at (no past) = cs.rest.no_queue d (omega arith) h ∙ sym (ct.rest.no_queue d (omega arith) h)

    -- the sort and the load of a waiting message, from what is read of it
    waiting_same : (d j : ℕ) → d < net.links * 2 → j < get_or s.queues.lens d 0 → (get_or s.queues.sorts (d * 2 + j) 0 ≡ get_or t.queues.sorts (d * 2 + j) 0) × (get_or s.queues.loads (d * 2 + j) 0 ≡ get_or t.queues.loads (d * 2 + j) 0)
    unfolding waiting_in message_of
    waiting_same d j used h =
        by (cs.queues.packet_or_ack d j used h) (ct.queues.packet_or_ack d j used (omega (arith, length_same d used)))
      where
        read_as : message_of (get_or s.queues.sorts (d * 2 + j) 0) (get_or s.queues.loads (d * 2 + j) 0) ≡ message_of (get_or t.queues.sorts (d * 2 + j) 0) (get_or t.queues.loads (d * 2 + j) 0)
        read_as =
            sym (list_at _ (get_or s.queues.lens d 0) j ack h) ∙ ap (λ l. get_or l j ack) (queue_same d used) ∙ list_at _ (get_or t.queues.lens d 0) j ack (omega (arith, length_same d used))

        a_packet_lem : (sort load : ℕ) → sort ≡ 1 → message_of sort load ≡ packet load
        a_packet_lem sort load e = if_eq_yes sort 1 (packet load) ack e

        an_ack_lem : (sort load : ℕ) → sort ≡ 2 → message_of sort load ≡ ack
        an_ack_lem sort load e = if_eq_no sort 1 (packet load) ack (λ o. omega arith)

        by : (get_or s.queues.sorts (d * 2 + j) 0 ≡ 1) ⊎ ((get_or s.queues.sorts (d * 2 + j) 0 ≡ 2) × (get_or s.queues.loads (d * 2 + j) 0 ≡ 0))
            → (get_or t.queues.sorts (d * 2 + j) 0 ≡ 1) ⊎ ((get_or t.queues.sorts (d * 2 + j) 0 ≡ 2) × (get_or t.queues.loads (d * 2 + j) 0 ≡ 0))
            → (get_or s.queues.sorts (d * 2 + j) 0 ≡ get_or t.queues.sorts (d * 2 + j) 0) × (get_or s.queues.loads (d * 2 + j) 0 ≡ get_or t.queues.loads (d * 2 + j) 0)
        by (inl a) (inl b) =
            let one : packet (get_or s.queues.loads (d * 2 + j) 0) ≡ packet (get_or t.queues.loads (d * 2 + j) 0) = sym (a_packet_lem _ _ a) ∙ read_as ∙ a_packet_lem _ _ b in
            (a ∙ sym b, cc)
        by (inr a) (inr b) = (a.0 ∙ sym b.0, a.1 ∙ sym b.1)
        by (inl a) (inr b) =
            let one : packet (get_or s.queues.loads (d * 2 + j) 0) ≡ ack = sym (a_packet_lem _ _ a) ∙ read_as ∙ an_ack_lem _ _ b.0 in
            let z : ◌≡◌ {A = ℕ} 0 1 = cc in
            absurd (omega arith)
        by (inr a) (inl b) =
            let one : ack ≡ packet (get_or t.queues.loads (d * 2 + j) 0) = sym (an_ack_lem _ _ a.0) ∙ read_as ∙ a_packet_lem _ _ b in
            let z : ◌≡◌ {A = ℕ} 0 1 = cc in
            absurd (omega arith)

    message_same : (d j : ℕ) → d < 256 → j < 2 → (get_or s.queues.sorts (d * 2 + j) 0 ≡ get_or t.queues.sorts (d * 2 + j) 0) × (get_or s.queues.loads (d * 2 + j) 0 ≡ get_or t.queues.loads (d * 2 + j) 0)
    message_same d j h small = at (dec_lt j (get_or s.queues.lens d 0)) (dec_lt d (net.links * 2))
      where
        at : Dec (j < get_or s.queues.lens d 0) → Dec (d < net.links * 2) → (get_or s.queues.sorts (d * 2 + j) 0 ≡ get_or t.queues.sorts (d * 2 + j) 0) × (get_or s.queues.loads (d * 2 + j) 0 ≡ get_or t.queues.loads (d * 2 + j) 0)
        at (yes waits) (yes used) = waiting_same d j used waits
        at (yes waits) (no past) = absurd (omega (arith, cs.rest.no_queue d (omega arith) h))
        at (no free) _ =
            let fs : get_or s.queues.lens d 0 ≤ j = omega arith in
            let ft : get_or t.queues.lens d 0 ≤ j = omega (arith, lens_same d h) in
            (cs.rest.no_sort d j h fs small ∙ sym (ct.rest.no_sort d j h ft small), cs.rest.no_load d j h fs small ∙ sym (ct.rest.no_load d j h ft small))

    slots_same : (d j : ℕ) → d < 256 → j < 2 → get_or s.slots (d * 2 + j) 0 ≡ get_or t.slots (d * 2 + j) 0
    slots_same d j h small = at (dec_lt d (net.links * 2))
      where
        at : Dec (d < net.links * 2) → get_or s.slots (d * 2 + j) 0 ≡ get_or t.slots (d * 2 + j) 0
        at (yes used) = slot_same d j used small
        at (no past) = cs.rest.no_slot d j (omega arith) h small ∙ sym (ct.rest.no_slot d j (omega arith) h small)

    counts_same : (k : Kind) (x : ℕ) → x < 256 → count_in s.counts (count k x) ≡ count_in t.counts (count k x)
    counts_same k x h = at (dec_lt x (used_by net.nodes net.links k))
      where
        at : Dec (x < used_by net.nodes net.links k) → count_in s.counts (count k x) ≡ count_in t.counts (count k x)
        at (yes used) = count_same k x used
        at (no past) = cs.rest.no_count k x (omega arith) h ∙ sym (ct.rest.no_count k x (omega arith) h)

    -- ---- array by array

    -- entries two to a direction
    by_pairs : (xs ys : List ℕ) → length xs ≡ 512 → length ys ≡ 512 → ((d j : ℕ) → d < 256 → j < 2 → get_or xs (d * 2 + j) 0 ≡ get_or ys (d * 2 + j) 0) → xs ≡ ys
    by_pairs xs ys lx ly e =
        ext_get_or 0 xs ys (lx ∙ sym ly) (λ x h. let is : x / 2 * 2 + x % 2 ≡ x = omega arith in subst (λ y. get_or xs y 0 ≡ get_or ys y 0) is (e (x / 2) (x % 2) (omega arith) (omega arith)))

    -- entries in rows, one for each kind
    by_rows : (xs ys : List ℕ) → length xs ≡ length kinds * 256 → length ys ≡ length kinds * 256 → ((k : Kind) (x : ℕ) → x < 256 → count_in xs (count k x) ≡ count_in ys (count k x)) → xs ≡ ys
    unfolding cell_of index_of
    by_rows xs ys lx ly e =
        ext_get_or 0 xs ys (lx ∙ sym ly) (λ x h. let is : (number_of (kind_at (x / 256)) - 16) * 256 + x % 256 ≡ x = omega (arith, number_at (x / 256) (omega arith)) in subst (λ y. get_or xs y 0 ≡ get_or ys y 0) is (e (kind_at (x / 256)) (x % 256) (omega arith)))

    whole : Sized s → Sized t → s ≡ t
    unfolding read
    whole zs zt = λ i. record {
      counts = by_rows s.counts t.counts zs.counts zt.counts counts_same i;
      queues = record {
        lens = ext_get_or 0 s.queues.lens t.queues.lens (zs.lens ∙ sym zt.lens) (λ d h. lens_same d (omega (arith, zs.lens))) i;
        sorts = by_pairs s.queues.sorts t.queues.sorts zs.sorts zt.sorts (λ d j h small. (message_same d j h small).0) i;
        loads = by_pairs s.queues.loads t.queues.loads zs.loads zt.loads (λ d j h small. (message_same d j h small).1) i;
      };
      slots = by_pairs s.slots t.slots zs.slots zt.slots slots_same i;
      values = ext_get_or 0 s.values t.values (zs.values ∙ sym zt.values) (λ p _. ap (λ g. g.value p) same) i;
    }

-- two valid states with one reading are one state
pub one_reading : (net : Network) → valid_network net ≡ true → (s t : State) → (valid_state net s ≡ true) × Sized s → (valid_state net t ≡ true) × Sized t → read net s ≡ read net t → s ≡ t
one_reading net v s t hs ht same =
    whole net v s t same (valid_state_clauses net v s hs.0) (valid_state_clauses net v t ht.0) hs.1 ht.1
