-- The answer to an action: 0 where it is taken, else the first of document 01's numbers 13, 14, 15, 16, 18 that applies.
-- Assumes nothing.
use Rattle.std.specs.Prelude.{ℕ, suc, Bool, true, false, not, List, [], ◌∷◌, ltb, leb, length}
use Rattle.laws.specs.Choice.{if_b, both}
use Rattle.automaton.specs.Lists.{every}
use Rattle.automaton.specs.Actions.{Act, same, output, packet_sent, ack_sent}
use Rattle.automaton.specs.Actions.{Place, a_node, a_link, a_preferred_link, a_child, a_root, body_of}
use Rattle.automaton.specs.Network.{Net, is_root}
use Rattle.automaton.specs.Needs.{Need, has, had_before, packet_first, ack_first, needs_of}
use Rattle.automaton.specs.Global.{Msg, packet, ack, Global}

-- the action puts a message into the queue from p to q
unfoldable pub sends : Act → ℕ → ℕ → Bool
sends a p q = if_b (same a (packet_sent p q)) true (same a (ack_sent p q))

-- the test must hold, or the answer is k
unfoldable pub must : Bool → ℕ → ℕ → ℕ
must t k rest = if_b t rest k

module _ {Value : Type 0} where
  unfoldable pub packet_at_front : List (Msg Value) → Bool
  packet_at_front [] = false
  packet_at_front (packet v ∷ l) = true
  packet_at_front (ack ∷ l) = false

  unfoldable pub ack_at_front : List (Msg Value) → Bool
  ack_at_front [] = false
  ack_at_front (packet v ∷ l) = false
  ack_at_front (ack ∷ l) = true

  -- the need holds for i
  unfoldable pub met : Global Value → ℕ → Need → Bool
  met s i (has b) = leb i (s.count b)
  met s i (had_before b) = leb i (suc (s.count b))
  met s i (packet_first p q) = packet_at_front (s.queue p q)
  met s i (ack_first p q) = ack_at_front (s.queue p q)

  -- the numbers p and q name such a place
  unfoldable pub fits : Net Value → ℕ → ℕ → Place → Bool
  fits net p q a_node = true
  fits net p q a_link = net.link p q
  fits net p q a_preferred_link = net.preferred p q
  fits net p q a_child = not (is_root net p)
  fits net p q a_root = is_root net p

  -- 13 where not: "node number not below node count"
  unfoldable pub known : Net Value → Act → Bool
  known net a = both (ltb (body_of a).p net.n) (ltb (body_of a).q net.n)

  -- 14 where not: "no such link, link not preferred (27, 28), a root where a parent is needed, no root for 24, 31"
  unfoldable pub legal : Net Value → Act → Bool
  legal net a = fits net (body_of a).p (body_of a).q (body_of a).place

  -- "Let i be that count plus one"
  unfoldable pub next : Global Value → Act → ℕ
  next s a = suc (s.count a)

  -- 15 where not: "output after the last round"
  unfoldable pub in_time : Net Value → Global Value → Act → Bool
  in_time net s a = if_b (same a (output (body_of a).p)) (leb (next s a) net.rounds) true

  -- 16 where not: "another need is missing"
  unfoldable pub enabled : Net Value → Global Value → Act → Bool
  enabled net s a = every (met s (next s a)) (needs_of net a)

  -- 18 where not: "kind 17 or 19 with two messages already queued"
  unfoldable pub room : Global Value → Act → Bool
  room s a = if_b (sends a (body_of a).p (body_of a).q) (ltb (length (s.queue (body_of a).p (body_of a).q)) 2) true

  unfoldable pub answer : Net Value → Global Value → Act → ℕ
  answer net s a =
      must (known net a) 13
      (must (legal net a) 14
      (must (in_time net s a) 15
      (must (enabled net s a) 16
      (must (room s a) 18 0))))
