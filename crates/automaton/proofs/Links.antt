-- The two ends of a link. An ok waits for the ack of each neighbour, and an ack for the packet's delivery: so every round that a node finished
-- its neighbours have heard (`input_delivered`). A node starts one round more than it finished, so at most one packet and one ack are under way
-- (`packet_ahead`, `ack_ahead`). And a node that goes on has the round's packet from each neighbour, and at most one after it
-- (`may_delivered`, `delivered_input`).
-- Assumes nothing.
use Prim.Native.Nat.{ℕ, suc, ◌+◌, ◌≤◌, ◌<◌}
use native.Mathlib.Omega.{arith}
use mathlib.Core.Path.{◌≡◌, refl}
use mathlib.Core.Bool.{true}
use Rattle.automaton.specs.Actions.{Act, packet_sent, packet_delivered, ack_sent, ack_delivered, ok, input}
use Rattle.automaton.specs.Network.{Net, neighbours}
use Rattle.automaton.specs.Clusters.{Near, together, joined}
use Rattle.automaton.specs.Accepted.{Accepted}
use Rattle.automaton.specs.Needs.{has, may, needs_of}
use Rattle.automaton.proofs.Lists.{each_of_map, picked}
use Rattle.automaton.proofs.Order.{Holds, Ordered}
use Rattle.automaton.proofs.Chains.{may_ok, input_ok, ok_output, output_input}

pub record Ends {Value : Type 0} (net : Net Value) (p q : ℕ) : Type 0 where
  pub p_below : p < net.n
  pub q_below : q < net.n
  pub linked : net.link p q ≡ true

module _ {Value : Type 0} (net : Net Value) (acc : Accepted net) where
  pub ends_back : (p q : ℕ) → Ends net p q → Ends net q p
  ends_back p q on = record { p_below = on.q_below; q_below = on.p_below; linked = acc.both_ways p q on.linked }

  ends_near : (p q : ℕ) → Ends net p q → Near net p q
  ends_near p q on = joined p q on.linked refl refl

  module _ (c : Act → ℕ) (o : Ordered net c) (p q : ℕ) (on : Ends net p q) where
    ok_ack : c (ok p) ≤ c (ack_delivered q p)
    unfolding needs_of neighbours
    ok_ack =
        picked (λ x. c (ok p) ≤ c (ack_delivered x p)) (net.link p) net.n
        (each_of_map (Holds c (c (ok p))) (λ x. has (ack_delivered x p)) (neighbours net p) (o.row (ok p)).1)
        q
        on.q_below
        on.linked

    input_ack : c (input p) ≤ c (ack_delivered q p)
    input_ack = omega (arith, input_ok net acc c o p p on.p_below on.p_below (together refl), ok_ack)

    pub ok_delivered : c (ok p) ≤ c (packet_delivered p q)
    unfolding needs_of
    ok_delivered = omega (arith, ok_ack, o.row (ack_delivered q p), o.row (ack_sent q p))

    pub input_delivered : c (input p) ≤ c (packet_delivered p q)
    unfolding needs_of
    input_delivered = omega (arith, input_ack, o.row (ack_delivered q p), o.row (ack_sent q p))

    -- at most one packet from p to q is under way
    pub packet_ahead : c (packet_sent p q) ≤ suc (c (packet_delivered p q))
    unfolding needs_of
    packet_ahead = omega (arith, o.row (packet_sent p q), output_input net acc c o p, input_delivered)

    -- p has acks of all packets delivered to q, or of all but one
    pub delivered_ahead : c (packet_delivered p q) ≤ suc (c (ack_delivered q p))
    unfolding needs_of
    delivered_ahead =
        omega (arith, o.row (packet_delivered p q), o.row (packet_sent p q), output_input net acc c o p, input_ack)

    -- at most one ack from q to p is under way
    pub ack_ahead : c (ack_sent q p) ≤ suc (c (ack_delivered q p))
    unfolding needs_of
    ack_ahead = omega (arith, o.row (ack_sent q p), delivered_ahead)

    -- q was delivered at most two packets more than the rounds it finished
    pub delivered_input : c (packet_delivered p q) ≤ c (input q) + 2
    unfolding needs_of
    delivered_input =
        omega (
          arith,
          o.row (packet_delivered p q),
          o.row (packet_sent p q),
          output_input net acc c o p,
          input_ok net acc c o p q on.p_below on.q_below (ends_near p q on),
          ok_output net acc c o q,
          output_input net acc c o q,
        )

  -- p may go only when the packet of the round was delivered to it from its neighbour q
  pub may_delivered : (c : Act → ℕ) → Ordered net c → (p q : ℕ) → Ends net p q → c (may net p) ≤ c (packet_delivered q p)
  may_delivered c o p q on =
      omega (arith, may_ok net acc c o p q on.p_below on.q_below (ends_near p q on), ok_delivered c o q p (ends_back p q on))
