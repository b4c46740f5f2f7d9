-- The counts that an action needs, as the code's table finds them in the arrays, are those that the automaton's table names: the one count
-- (`need_read`), and that of every neighbour, child or preferred neighbour (`every_read`).
-- Assumes nothing.
use Prim.Native.Nat.{ℕ, suc, ◌<◌}
use mathlib.Core.Path.{◌≡◌, refl, sym, ◌∙◌, ap, ap₂}
use mathlib.Core.Bool.{Bool, true, false}
use mathlib.Core.List.{List, map}
use lib.Dec.{ltb, leb}
use lib.ListN.{get_or}
use borrow.Author.Tests.{lt-ltb, ltb-true}
use Rattle.laws.specs.Choice.{if_b, both}
use Rattle.laws.proofs.Choice.{if_b_yes}
use Rattle.nodeset.specs.Marks.{member, members_of}
use Rattle.network.specs.declared.Network.{Network}
use Rattle.network.specs.Valid.{valid_network}
use Rattle.network.proofs.Valid.{valid_ranges}
use Rattle.actions.specs.declared.Kind.{Kind}
use Rattle.actions.specs.declared.Kind.TheVariants.{PacketSent, PacketDelivered, AckSent, ClusterOk, DownDelivered, PreferredSent, ClusterGo, SubtreeGoDelivered}
use Rattle.actions.specs.declared.Counter.{Counter}
use Rattle.actions.specs.declared.Every.{Every}
use Rattle.actions.specs.Kinds.{count, count_in}
use Rattle.actions.specs.Table.{place_of, knows_by, may_go_by, need_of}
use Rattle.synchronizer.specs.declared.State.{State}
use Rattle.synchronizer.specs.Wires as Wires
use Rattle.synchronizer.specs.Wires.{wires_of, lanes_of, lane_in, around_of}
use Rattle.counts.specs.Counts.{children_have}
use Rattle.synchronizer.specs.Answer.{senders_have, every_has}
use Rattle.automaton.specs.Actions.{Act, output, packet_sent, packet_delivered, ack_sent, ack_delivered, ok, subtree_ok_sent, subtree_ok_delivered, cluster_ok}
use Rattle.automaton.specs.Actions.{down_sent, down_delivered, preferred_sent, preferred_delivered, up_sent, up_delivered, cluster_go}
use Rattle.automaton.specs.Actions.{subtree_go_sent, subtree_go_delivered, go, input, body_of}
use Rattle.automaton.specs.Network.{is_root, children, preferred_neighbours}
use Rattle.automaton.specs.Needs.{Need, has, know, may}
use Rattle.automaton.specs.Lists.{every}
use Rattle.automaton.specs.Answer.{met}
use Rattle.guarantees.specs.Kinds.{kind_of}
use Rattle.guarantees.specs.Reading.{cell_at, joins, net_of, names_link, seated, seat_of, count_of, read}
use Rattle.guarantees.proofs.Links.{joins_back, prefers_joins, nodes_below, neighbour_is, preferred_is, member_child, neighbours_are, children_are, preferred_neighbours_are}
use Rattle.guarantees.proofs.Directions.{lane_is}
use Rattle.guarantees.proofs.Bytes.{cell_is}
use Rattle.guarantees.proofs.Seats.{counter_of, seat_of_link, seated_link, seat_of_node, seated_node}
use Rattle.guarantees.proofs.Tables.{action_of, place_as, needed, every_needs, Fitting}
use Rattle.guarantees.proofs.Members.{every_append, all_members}

module _ (net : Network) (v : valid_network net ≡ true) where
  below : (p : ℕ) → p < net.nodes → ltb p net.nodes ≡ true
  below p h = lt-ltb p net.nodes h

  -- ---- the one count

  -- c is the counter that is read for b
  record Seat (c : Counter) (b : Act) : Type 0 where
    counter : c ≡ counter_of net b
    has_one : seated net b ≡ true

  knows : (p : ℕ) → p < net.nodes → Seat (knows_by (Wires.is_root net.parents p) p) (know (net_of net) p)
  unfolding knows_by know is_root Wires.is_root net_of kind_of seated seat_of body_of names_link if_b
  knows p h = at (Wires.is_root net.parents p)
    where
      at : (t : Bool) → Seat (if_b t (count ClusterOk p) (count DownDelivered p)) (if_b t (cluster_ok p) (down_delivered p))
      at true = record { counter = refl; has_one = below p h }
      at false = record { counter = refl; has_one = below p h }

  mays : (p : ℕ) → p < net.nodes → Seat (may_go_by (Wires.is_root net.parents p) p) (may (net_of net) p)
  unfolding may_go_by may is_root Wires.is_root net_of kind_of seated seat_of body_of names_link if_b
  mays p h = at (Wires.is_root net.parents p)
    where
      at : (t : Bool) → Seat (if_b t (count ClusterGo p) (count SubtreeGoDelivered p)) (if_b t (cluster_go p) (subtree_go_delivered p))
      at true = record { counter = refl; has_one = below p h }
      at false = record { counter = refl; has_one = below p h }

  parent_below_lem : (p : ℕ) → p < net.nodes → get_or net.parents p 0 < net.nodes
  parent_below_lem = (valid_ranges net v).parent_below_lem

  -- the table of needs, a row a line: s says that the action's node is below the node count, or that its two nodes are joined
  need_seat : (a : Act) → seated net a ≡ true → Seat (need_of (kind_of a) (body_of a).p (around_of (wires_of net) (body_of a).p (body_of a).q)) (needed (net_of net) a)
  unfolding needed need_of around_of wires_of net_of kind_of seated seat_of body_of names_link if_b
  need_seat (output p) s = record { counter = refl; has_one = s }
  need_seat (packet_sent p q) s = record { counter = refl; has_one = below p (nodes_below net v p q s).0 }
  need_seat (packet_delivered p q) s = record { counter = ap (count PacketSent) (lane_is net v p q s); has_one = s }
  need_seat (ack_sent p q) s =
      record { counter = ap (count PacketDelivered) (lane_is net v q p (joins_back net v p q s)); has_one = joins_back net v p q s }
  need_seat (ack_delivered p q) s = record { counter = ap (count AckSent) (lane_is net v p q s); has_one = s }
  need_seat (ok p) s = record { counter = refl; has_one = s }
  need_seat (subtree_ok_sent p) s = record { counter = refl; has_one = s }
  need_seat (subtree_ok_delivered p) s = record { counter = refl; has_one = s }
  need_seat (cluster_ok p) s = record { counter = refl; has_one = s }
  need_seat (down_sent p) s = knows (get_or net.parents p 0) (parent_below_lem p (ltb-true p net.nodes s))
  need_seat (down_delivered p) s = record { counter = refl; has_one = s }
  need_seat (preferred_sent p q) s = knows p (nodes_below net v p q s).0
  need_seat (preferred_delivered p q) s = record { counter = ap (count PreferredSent) (lane_is net v p q s); has_one = s }
  need_seat (up_sent p) s = knows p (ltb-true p net.nodes s)
  need_seat (up_delivered p) s = record { counter = refl; has_one = s }
  need_seat (cluster_go p) s = knows p (ltb-true p net.nodes s)
  need_seat (subtree_go_sent p) s = mays (get_or net.parents p 0) (parent_below_lem p (ltb-true p net.nodes s))
  need_seat (subtree_go_delivered p) s = record { counter = refl; has_one = s }
  need_seat (go p) s = mays p (ltb-true p net.nodes s)
  need_seat (input p) s = record { counter = refl; has_one = s }

  -- a count that is there is read
  pub count_read : (s : State) (b : Act) → seated net b ≡ true → count_of net s b ≡ count_in s.counts (counter_of net b)
  unfolding count_of
  count_read s b e = if_b_yes (seated net b) (get_or s.counts (cell_at b (seat_of net b)) 0) 0 e ∙ ap (λ c. get_or s.counts c 0) (cell_is b (seat_of net b))

  pub need_read : (s : State) (a : Act) → seated net a ≡ true → count_in s.counts (need_of (kind_of a) (body_of a).p (around_of (wires_of net) (body_of a).p (body_of a).q)) ≡ count_of net s (needed (net_of net) a)
  need_read s a e =
      let b = need_seat a e in
      ap (count_in s.counts) b.counter ∙ sym (count_read s (needed (net_of net) a) b.has_one)

  -- ---- the counts of all around

  module _ (s : State) (n p : ℕ) (h : p < net.nodes) where
    abbrev lanes : List ℕ
    lanes = lanes_of net.lowers net.uppers net.links

    -- of a kind that goes along a link, at the direction from q to p
    sender_read : (k : Kind) (q : ℕ) → names_link (place_as (place_of k)) ≡ true → joins net q p ≡ true → count_in s.counts (count k (lane_in lanes q p)) ≡ count_of net s (action_of k q p)
    sender_read k q two j =
        ap (count_in s.counts) (ap (count k) (lane_is net v q p j) ∙ sym (seat_of_link net k q p two))
        ∙ sym (count_read s (action_of k q p) (seated_link net k q p two ∙ j))

    -- of a kind that has one node, at c
    child_read : (k : Kind) (c : ℕ) → names_link (place_as (place_of k)) ≡ false → c < net.nodes → count_in s.counts (count k c) ≡ count_of net s (action_of k c c)
    child_read k c one b =
        ap (count_in s.counts) (sym (seat_of_node net k c c one)) ∙ sym (count_read s (action_of k c c) (seated_node net k c c one ∙ below c b))

    -- the test of a count, in the code and in the automaton
    meets : Need → Bool
    meets = met (read net s) (suc n)

    senders_read : (k : Kind) (m : ℕ) → names_link (place_as (place_of k)) ≡ true → ((q : ℕ) → member m q ≡ true → joins net p q ≡ true)
        → senders_have s.counts lanes k p n m ≡ every meets (map (λ q. has (action_of k q p)) (members_of m))
    unfolding senders_have meets met read
    senders_read k m two on =
        all_members meets (λ q. ltb n (count_in s.counts (count k (lane_in lanes q p)))) (λ q. has (action_of k q p)) m
        (λ q i. ap (leb (suc n)) (sender_read k q two (joins_back net v p q (on q i))))

    children_read : (k : Kind) → names_link (place_as (place_of k)) ≡ false
        → children_have s.counts k n (get_or net.children p 0) ≡ every meets (map (λ c. has (action_of k c c)) (children (net_of net) p))
    unfolding children_have meets met read
    children_read k one =
        all_members meets (λ c. ltb n (count_in s.counts (count k c))) (λ c. has (action_of k c c)) (get_or net.children p 0)
        (λ c i. ap (leb (suc n)) (child_read k c one (member_child net v p c h i)))
        ∙ ap (λ l. every meets (map (λ c. has (action_of k c c)) l)) (sym (children_are net v p h))

    pub every_read : (e : Every) → Fitting e
        → every_has e s.counts lanes p n (get_or net.neighbours p 0) (get_or net.children p 0) (get_or net.preferred p 0) ≡ every (met (read net s) (suc n)) (every_needs (net_of net) e p)
    unfolding every_has every_needs every Fitting meets
    every_read Every.Nobody fit = refl
    every_read (Every.Neighbour k) fit =
        senders_read k (get_or net.neighbours p 0) fit (λ q i. sym (neighbour_is net v p q h) ∙ i)
        ∙ ap (λ l. every meets (map (λ q. has (action_of k q p)) l)) (sym (neighbours_are net v p h))
    every_read (Every.Child k) fit = children_read k fit
    every_read (Every.ChildAndPreferred k j) fit =
        ap₂ both (children_read k fit.0)
        (senders_read j (get_or net.preferred p 0) fit.1 (λ q i. prefers_joins net v p q (sym (preferred_is net v p q h) ∙ i))
        ∙ ap (λ l. every meets (map (λ q. has (action_of j q p)) l)) (sym (preferred_neighbours_are net v p h)))
        ∙ sym (every_append meets (map (λ c. has (action_of k c c)) (children (net_of net) p)) (map (λ q. has (action_of j q p)) (preferred_neighbours (net_of net) p)))
