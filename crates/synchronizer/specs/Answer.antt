-- The answer to an action: 0 where it is taken, else the first of 13, 14, 15, 16, 18 that applies. The table of what each action names, needs
-- and does is that of the crate `actions`; this file says when a row of it holds. Nothing here changes a state.
-- Assumes nothing.
use Rattle.std.specs.Prelude.{ℕ, Bool, true, false, not, List, ltb, get_or}
use Rattle.laws.specs.Choice.{if_b, if_lt, if_eq, both}
use Rattle.nodeset.specs.Marks.{member, all_in}
use Rattle.network.specs.declared.Network.{Network}
use Rattle.actions.specs.declared.Kind.{Kind}
use Rattle.actions.specs.declared.Place.{Place}
use Rattle.actions.specs.declared.Counter.{Counter}
use Rattle.actions.specs.declared.Every.{Every}
use Rattle.actions.specs.declared.Does.{Does}
use Rattle.actions.specs.Kinds.{count, count_in}
use Rattle.actions.specs.Table.{place_of, own_of, need_of, every_of, does_of}
use Rattle.counts.specs.Counts.{children_have}
use Rattle.queue.specs.declared.Head.{Head}
use Rattle.queue.specs.Queue.{head_of, packet_first, ack_first, room_answer}
use Rattle.synchronizer.specs.declared.State.{State}
use Rattle.synchronizer.specs.Wires.{Wires, wires_of, lane_in, is_root, around_of}

-- not 14: "no such link, link not preferred (27, 28), a root where a parent is needed, no root for 24, 31"
unfoldable pub stands_in : Place → ℕ → ℕ → ℕ → Bool → Bool
stands_in Place.Node neighbours preferred q root = true
stands_in Place.Link neighbours preferred q root = member neighbours q
stands_in Place.PreferredLink neighbours preferred q root = member preferred q
stands_in Place.Child neighbours preferred q root = not root
stands_in Place.Root neighbours preferred q root = root

-- the action starts a round: output, of all actions
unfoldable pub starts_round : Does → Bool
starts_round Does.Starts = true
starts_round Does.Counts = false
starts_round Does.SendsPacket = false
starts_round Does.SendsAck = false
starts_round Does.TakesPacket = false
starts_round Does.TakesAck = false
starts_round Does.Means = false

-- The answer by the one count needed, where the action was taken n times, so that i is n + 1. "'Has X' means X's count is at least i"; an
-- output needs "i ≤ rounds", which is 15, and inputs "at least i − 1".
unfoldable pub count_answer : Bool → ℕ → ℕ → ℕ → ℕ
count_answer starts rounds n has = if_b starts (if_lt n rounds (if_lt has n 16 0) 15) (if_lt n has 0 16)

-- the count is above n on the direction to p from every node in the set
unfoldable pub senders_have : List ℕ → List ℕ → Kind → ℕ → ℕ → ℕ → Bool
senders_have counts lanes k p n set = all_in (λ q. ltb n (count_in counts (count k (lane_in lanes q p)))) set

-- "every child", "every neighbour", "each of its preferred links" of p: the sets are p's
unfoldable pub every_has : Every → List ℕ → List ℕ → ℕ → ℕ → ℕ → ℕ → ℕ → Bool
every_has Every.Nobody counts lanes p n neighbours children preferred = true
every_has (Every.Neighbour k) counts lanes p n neighbours children preferred = senders_have counts lanes k p n neighbours
every_has (Every.Child k) counts lanes p n neighbours children preferred = children_have counts k n children
every_has (Every.ChildAndPreferred k j) counts lanes p n neighbours children preferred =
    both (children_have counts k n children) (senders_have counts lanes j p n preferred)

-- the answer by the queue of the direction from p to q
unfoldable pub queue_answer : Does → Head → ℕ → ℕ
queue_answer Does.Starts head len = 0
queue_answer Does.Counts head len = 0
queue_answer Does.SendsPacket head len = room_answer len
queue_answer Does.SendsAck head len = room_answer len
queue_answer Does.TakesPacket head len = packet_first head
queue_answer Does.TakesAck head len = ack_first head
queue_answer Does.Means head len = 0

module _ (w : Wires) where
  -- the count of the action itself
  unfoldable pub own_in : Kind → ℕ → ℕ → Counter
  own_in k p q = own_of (place_of k) k p (lane_in w.lanes p q)

  -- 13 and 14
  unfoldable pub legal_answer : Kind → ℕ → ℕ → ℕ
  legal_answer k p q =
      if_lt p w.nodes
      (if_lt q w.nodes
      (if_b (stands_in (place_of k) (get_or w.neighbours p 0) (get_or w.preferred p 0) q (is_root w.parents p)) 0 14)
      13)
      13

  -- 15, 16 and 18
  unfoldable pub need_answer : State → Kind → ℕ → ℕ → ℕ
  need_answer s k p q =
      if_eq counted 0
      (if_b (every_has (every_of k) s.counts w.lanes p n (get_or w.neighbours p 0) (get_or w.children p 0) (get_or w.preferred p 0))
      (queue_answer (does_of k) (head_of s.queues.lens s.queues.sorts s.queues.loads lane) (get_or s.queues.lens lane 0))
      16)
      counted
    where
      lane : ℕ
      lane = lane_in w.lanes p q

      n : ℕ
      n = count_in s.counts (own_in k p q)

      counted : ℕ
      counted =
          count_answer (starts_round (does_of k)) w.rounds n (count_in s.counts (need_of k p (around_of w p q)))

  -- "Action order: .. 13, 14, 15, 16, 18"
  unfoldable pub answer_in : State → Kind → ℕ → ℕ → ℕ
  answer_in s k p q = if_eq (legal_answer k p q) 0 (need_answer s k p q) (legal_answer k p q)

-- of a network
abbrev pub answer_of : Network → State → Kind → ℕ → ℕ → ℕ
answer_of net = answer_in (wires_of net)
