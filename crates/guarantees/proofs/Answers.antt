-- The code's answer is the automaton's. Each asks the same questions in document 01's order, 13, 14, 15, 16, 18; each question has the same answer
-- in the arrays and in their reading; and how the answers are put together is the same for every outcome of the tests.
-- Assumes nothing.
use Prim.Native.Nat.{ℕ, suc, ◌+◌, ◌*◌, ◌<◌}
use native.Mathlib.Nat.{add-zero}
use native.Mathlib.Omega.{arith}
use mathlib.Core.Path.{◌≡◌, refl, sym, ◌∙◌, ap, ap₂}
use mathlib.Core.Bool.{Bool, true, false, true≢false, false≢true}
use mathlib.Core.List.{List, []}
use mathlib.Core.Logic.{◌⊎◌, inl, inr}
use lib.Dec.{ltb, leb}
use lib.ListN.{length, get_or}
use borrow.Author.Tests.{lt-ltb, le-ltb, ltb-true, leb-true, leb-false}
use Rattle.laws.specs.Choice.{if_b, if_lt, if_eq, both}
use Rattle.laws.specs.Below.{all_below}
use Rattle.laws.proofs.Choice.{if_b_yes, if_b_no}
use Rattle.laws.proofs.Below.{length_list}
use Rattle.network.specs.declared.Network.{Network}
use Rattle.network.specs.Valid.{valid_network}
use Rattle.actions.specs.declared.Kind.{Kind}
use Rattle.actions.specs.declared.Place as Kinds
use Rattle.actions.specs.declared.Does.{Does}
use Rattle.actions.specs.Table.{place_of, every_of, does_of}
use Rattle.actions.specs.Kinds.{kind_at, count_in}
use Rattle.actions.proofs.Numbers.{every_kind}
use Rattle.queue.specs.Queue.{head_of, room_answer, queues}
use Rattle.synchronizer.specs.declared.State.{State}
use Rattle.synchronizer.specs.Wires as Wires
use Rattle.synchronizer.specs.Wires.{wires_of, lanes_of, lane_in}
use Rattle.queue.specs.Queue as Code
use Rattle.synchronizer.specs.Answer.{stands_in, starts_round, count_answer, every_has, queue_answer, own_in, legal_answer, need_answer, answer_in, answer_of}
use Rattle.synchronizer.specs.Valid.{StateClauses}
use Rattle.automaton.specs.Actions.{Act, Place, a_node, a_link, a_preferred_link, a_child, a_root, body_of}
use Rattle.automaton.specs.Network.{is_root}
use Rattle.automaton.specs.Global.{Global}
use Rattle.automaton.specs.Lists.{every}
use Rattle.automaton.specs.Answer.{must, packet_at_front, ack_at_front, met, fits, known, legal, next, in_time, enabled, room, answer}
use Rattle.guarantees.specs.Kinds.{kind_of}
use Rattle.guarantees.specs.Reading.{joins, direction_of, net_of, names_link, seated, count_of, waiting_in, read}
use Rattle.guarantees.proofs.Links.{neighbour_is, preferred_is, prefers_joins}
use Rattle.guarantees.proofs.Directions.{direction_below, lane_is}
use Rattle.guarantees.proofs.Tables.{place_as, sends_one, moves, needed, leading, queue_needs, every_needs, row_of}
use Rattle.guarantees.proofs.Members.{both_true, every_append}
use Rattle.guarantees.proofs.Seats.{place_is, own_is}
use Rattle.guarantees.proofs.Needs.{count_read, need_read, every_read}
use Rattle.guarantees.proofs.Waiting.{waiting_of, head_from, packet_first_lem, ack_first_lem, head_is}

-- ---- how the tests' outcomes are put together

-- 13 and 14: the body's two numbers are below the node count, and it names such a place
order_13_14 : (p q s s' : Bool) (x y : ℕ) → (p ≡ true → q ≡ true → s ≡ s') → (p ≡ true → q ≡ true → s' ≡ true → x ≡ y)
    → if_eq (if_b p (if_b q (if_b s 0 14) 13) 13) 0 x (if_b p (if_b q (if_b s 0 14) 13) 13) ≡ must (both p q) 13 (must s' 14 y)
unfolding must both if_b if_eq
order_13_14 false q s s' x y e f = refl
order_13_14 true false s s' x y e f = refl
order_13_14 true true true true x y e f = f refl refl refl
order_13_14 true true false false x y e f = refl
order_13_14 true true true false x y e f = absurd (true≢false (e refl refl))
order_13_14 true true false true x y e f = absurd (false≢true (e refl refl))

-- 15 and 16 by the one count: the action was taken n times, and the action that it needs h times
count_outcome : (starts : Bool) (rounds n h : ℕ)
    → count_answer starts rounds n h ≡ must (if_b starts (leb (suc n) rounds) true) 15 (must (if_b starts (leb (suc n) (suc h)) (leb (suc n) h)) 16 0)
unfolding count_answer must if_b if_lt
count_outcome true rounds n h = ap (λ (x : ℕ). if_b (leb (suc n) rounds) x 15) (at (leb (suc n) (suc h)) refl)
  where
    at : (t : Bool) → leb (suc n) (suc h) ≡ t → if_b {A = ℕ} (ltb h n) 16 0 ≡ if_b t 0 16
    at true e = if_b_no {A = ℕ} (ltb h n) 16 0 (le-ltb h n (omega (arith, leb-true (suc n) (suc h) e)))
    at false e = if_b_yes {A = ℕ} (ltb h n) 16 0 (lt-ltb h n (omega (arith, leb-false (suc n) (suc h) e)))
count_outcome false rounds n h = refl

-- 15, then 16 by the one count, by the counts of all around and by the queue, then 18
order_15_16_18 : (t c e q : Bool) (r : ℕ) → if_eq (must t 15 (must c 16 0)) 0 (if_b e (must q 16 r) 16) (must t 15 (must c 16 0)) ≡ must t 15 (must (both c (both q e)) 16 r)
unfolding must both if_b if_eq
order_15_16_18 false c e q r = refl
order_15_16_18 true false e q r = refl
order_15_16_18 true true true true r = refl
order_15_16_18 true true true false r = refl
order_15_16_18 true true false true r = refl
order_15_16_18 true true false false r = refl

-- the need that leads a row: an output's is for the round before
met_leading : (g : Global ℕ) (i : ℕ) (starts : Bool) (b : Act) → met g i (leading starts b) ≡ if_b starts (leb i (suc (g.count b))) (leb i (g.count b))
unfolding met leading if_b
met_leading g i true b = refl
met_leading g i false b = refl

module _ (net : Network) (v : valid_network net ≡ true) where
  -- ---- 13 and 14

  -- a body names such a place in the kept sets exactly where it does in the network that is read
  stands_is : (w : Kinds.Place) (p q : ℕ) → p < net.nodes
      → stands_in w (get_or net.neighbours p 0) (get_or net.preferred p 0) q (Wires.is_root net.parents p) ≡ fits (net_of net) p q (place_as w)
  unfolding stands_in fits place_as net_of is_root Wires.is_root
  stands_is Kinds.Place.Node p q h = refl
  stands_is Kinds.Place.Link p q h = neighbour_is net v p q h
  stands_is Kinds.Place.PreferredLink p q h = preferred_is net v p q h
  stands_is Kinds.Place.Child p q h = refl
  stands_is Kinds.Place.Root p q h = refl

  -- an action that 13 and 14 let through has a count
  pub legal_seated : (a : Act) → ltb (body_of a).p net.nodes ≡ true → legal (net_of net) a ≡ true → seated net a ≡ true
  unfolding legal fits seated names_link if_b net_of
  legal_seated a below = at (body_of a).place
    where
      at : (w : Place) → fits (net_of net) (body_of a).p (body_of a).q w ≡ true → if_b (names_link w) (joins net (body_of a).p (body_of a).q) (ltb (body_of a).p net.nodes) ≡ true
      at a_node e = below
      at a_link e = e
      at a_preferred_link e = prefers_joins net v (body_of a).p (body_of a).q e
      at a_child e = below
      at a_root e = below

  -- ---- the queue

  -- the actions that look at a queue go along a link
  pub moving_joins : (a : Act) → seated net a ≡ true → moves (does_of (kind_of a)) ≡ true → joins net (body_of a).p (body_of a).q ≡ true
  unfolding seated moves does_of names_link place_as place_of kind_at all_below both if_b
  moving_joins a e m =
      sym (if_b_yes (names_link (body_of a).place) (joins net (body_of a).p (body_of a).q) (ltb (body_of a).p net.nodes) named) ∙ e
    where
      named : names_link (body_of a).place ≡ true
      named =
          ap names_link (place_is a)
          ∙ sym (if_b_yes (moves (does_of (kind_of a))) (names_link (place_as (place_of (kind_of a)))) true m)
          ∙ every_kind (λ k. if_b (moves (does_of k)) (names_link (place_as (place_of k))) true) refl (kind_of a)

  module _ (s : State) (c : StateClauses net s) where
    lanes : List ℕ
    lanes = lanes_of net.lowers net.uppers net.links

    -- what waits first in a direction of a link is a packet or an ack
    pub sorted : (d : ℕ) → d < net.links * 2 → 0 < get_or s.queues.lens d 0 → (get_or s.queues.sorts (d * 2) 0 ≡ 1) ⊎ (get_or s.queues.sorts (d * 2) 0 ≡ 2)
    sorted d h some = at (c.queues.packet_or_ack d 0 h some)
      where
        at : (get_or s.queues.sorts (d * 2 + 0) 0 ≡ 1) ⊎ ((get_or s.queues.sorts (d * 2 + 0) 0 ≡ 2) × (get_or s.queues.loads (d * 2 + 0) 0 ≡ 0)) → (get_or s.queues.sorts (d * 2) 0 ≡ 1) ⊎ (get_or s.queues.sorts (d * 2) 0 ≡ 2)
        at (inl e) = inl (rw (add-zero (d * 2)) at e)
        at (inr e) = inr (rw (add-zero (d * 2)) at e.0)

    module _ (p q : ℕ) (j : joins net p q ≡ true) where
      pub queue_read : (read net s).queue p q ≡ waiting_of s.queues (direction_of net p q)
      unfolding read waiting_in
      queue_read = if_b_yes (joins net p q) (waiting_in s (direction_of net p q)) [] j

      length_read : length ((read net s).queue p q) ≡ get_or s.queues.lens (lane_in lanes p q) 0
      unfolding lanes
      length_read = ap length queue_read ∙ length_list _ _ ∙ ap (λ d. get_or s.queues.lens d 0) (sym (lane_is net v p q j))

      head_read : head_of s.queues.lens s.queues.sorts s.queues.loads (lane_in lanes p q) ≡ head_from ((read net s).queue p q)
      unfolding lanes
      head_read =
          ap (head_of s.queues.lens s.queues.sorts s.queues.loads) (lane_is net v p q j)
          ∙ head_is s.queues (direction_of net p q) (sorted (direction_of net p q) (direction_below net v p q j))
          ∙ ap head_from (sym queue_read)

    -- 16 by what is first, and 18
    queue_outcome : (does : Does) (p q i : ℕ) → (moves does ≡ true → joins net p q ≡ true)
        → queue_answer does (head_of s.queues.lens s.queues.sorts s.queues.loads (lane_in lanes p q)) (get_or s.queues.lens (lane_in lanes p q) 0)
        ≡ must (every (met (read net s) i) (queue_needs does p q)) 16 (must (if_b (sends_one does) (ltb (length ((read net s).queue p q)) 2) true) 18 0)
    unfolding queue_answer room_answer queue_needs every met sends_one moves must both if_b if_lt
    queue_outcome Does.Starts p q i on = refl
    queue_outcome Does.Counts p q i on = refl
    queue_outcome Does.SendsPacket p q i on = ap room_answer (sym (length_read p q (on refl)))
    queue_outcome Does.SendsAck p q i on = ap room_answer (sym (length_read p q (on refl)))
    queue_outcome Does.TakesPacket p q i on =
        ap Code.packet_first (head_read p q (on refl)) ∙ packet_first_lem ((read net s).queue p q) ∙ ap (λ t. must t 16 0) (sym (both_true (packet_at_front ((read net s).queue p q))))
    queue_outcome Does.TakesAck p q i on =
        ap Code.ack_first (head_read p q (on refl)) ∙ ack_first_lem ((read net s).queue p q) ∙ ap (λ t. must t 16 0) (sym (both_true (ack_at_front ((read net s).queue p q))))
    queue_outcome Does.Means p q i on = refl

    -- ---- 15, 16 and 18

    module _ (a : Act) (e : seated net a ≡ true) (below : (body_of a).p < net.nodes) where
      pub own_read : count_in s.counts (own_in (wires_of net) (kind_of a) (body_of a).p (body_of a).q) ≡ count_of net s a
      own_read = ap (count_in s.counts) (own_is net v a e) ∙ sym (count_read net v s a e)

      need_outcome : need_answer (wires_of net) s (kind_of a) (body_of a).p (body_of a).q
          ≡ must (in_time (net_of net) (read net s) a) 15 (must (enabled (net_of net) (read net s) a) 16 (must (room (read net s) a) 18 0))
      unfolding need_answer wires_of in_time enabled room next read net_of lanes every
      need_outcome =
          ap₂ asked own_read (need_read net v s a e)
          ∙ (λ x. if_eq (counts x) 0 (if_b (around x) (line x) 16) (counts x))
          ∙ order_15_16_18 (if_b starts (leb i net.rounds) true) (if_b starts (leb i (suc h)) (leb i h)) (every (met g i) (every_needs (net_of net) (every_of k) p)) (every (met g i) (queue_needs (does_of k) p q)) (must (if_b (sends_one (does_of k)) (ltb (length (g.queue p q)) 2) true) 18 0)
          ∙ (λ x. must (time x) 15 (must (needs x) 16 (must (space x) 18 0)))
        where
          k : Kind
          k = kind_of a

          p : ℕ
          p = (body_of a).p

          q : ℕ
          q = (body_of a).q

          g : Global ℕ
          g = read net s

          starts : Bool
          starts = starts_round (does_of k)

          n : ℕ
          n = count_of net s a

          h : ℕ
          h = count_of net s (needed (net_of net) a)

          i : ℕ
          i = suc n

          lane : ℕ
          lane = lane_in lanes p q

          -- what the code asks, where the action was taken m times and the action that it needs l times
          asked : ℕ → ℕ → ℕ
          asked m l =
              if_eq (count_answer starts net.rounds m l) 0
              (if_b (every_has (every_of k) s.counts lanes p m (get_or net.neighbours p 0) (get_or net.children p 0) (get_or net.preferred p 0))
              (queue_answer (does_of k) (head_of s.queues.lens s.queues.sorts s.queues.loads lane) (get_or s.queues.lens lane 0))
              16)
              (count_answer starts net.rounds m l)

          counts : count_answer starts net.rounds n h ≡ must (if_b starts (leb i net.rounds) true) 15 (must (if_b starts (leb i (suc h)) (leb i h)) 16 0)
          counts = count_outcome starts net.rounds n h

          around : every_has (every_of k) s.counts lanes p n (get_or net.neighbours p 0) (get_or net.children p 0) (get_or net.preferred p 0) ≡ every (met g i) (every_needs (net_of net) (every_of k) p)
          around = every_read net v s n p below (every_of k) (row_of a).fitting

          line : queue_answer (does_of k) (head_of s.queues.lens s.queues.sorts s.queues.loads lane) (get_or s.queues.lens lane 0) ≡ must (every (met g i) (queue_needs (does_of k) p q)) 16 (must (if_b (sends_one (does_of k)) (ltb (length (g.queue p q)) 2) true) 18 0)
          line = queue_outcome (does_of k) p q i (moving_joins a e)

          time : if_b starts (leb i net.rounds) true ≡ in_time (net_of net) g a
          time = ap (λ t. if_b t (leb i net.rounds) true) (sym (row_of a).starts)

          needs : both (if_b starts (leb i (suc h)) (leb i h)) (both (every (met g i) (queue_needs (does_of k) p q)) (every (met g i) (every_needs (net_of net) (every_of k) p))) ≡ enabled (net_of net) g a
          needs =
              ap₂ both (sym (met_leading g i starts (needed (net_of net) a))) (sym (every_append (met g i) (queue_needs (does_of k) p q) (every_needs (net_of net) (every_of k) p)))
              ∙ ap (every (met g i)) (sym ((row_of a).needs (net_of net)))

          space : if_b (sends_one (does_of k)) (ltb (length (g.queue p q)) 2) true ≡ room g a
          space = ap (λ t. if_b t (ltb (length (g.queue p q)) 2) true) (sym (row_of a).sending)

    -- ---- the answer

    pub answer_is : (a : Act) → answer_of net s (kind_of a) (body_of a).p (body_of a).q ≡ answer (net_of net) (read net s) a
    unfolding answer_in legal_answer answer known legal wires_of net_of if_lt
    answer_is a =
        order_13_14 (ltb (body_of a).p net.nodes) (ltb (body_of a).q net.nodes) _ (legal (net_of net) a) _ _
        (λ below _. stands_is (place_of (kind_of a)) (body_of a).p (body_of a).q (ltb-true _ _ below) ∙ ap (fits (net_of net) (body_of a).p (body_of a).q) (sym (place_is a)))
        (λ below _ is. need_outcome a (legal_seated a below is) (ltb-true _ _ below))
