-- "Each direction of a link is one queue, first in first out, shared by packets and acks, with room for two." And what was heard last from it.
-- Assumes nothing.
use Rattle.std.specs.Prelude.{ℕ, ◌+◌, ◌-◌, ◌*◌, ◌%◌, List, get_or, set}
use Rattle.laws.specs.Choice.{if_lt, if_eq}
use Rattle.queue.specs.declared.Head.{Head}
use Rattle.queue.specs.declared.Message.{Message}
use Rattle.queue.specs.declared.Queues.{Queues}

-- the sorts of a waiting message
abbrev pub packet : ℕ
packet = 1

abbrev pub ack : ℕ
ack = 2

-- how a message stands at its place: its sort, and the value that it carries, an ack none
abbrev pub sort_of : Message → ℕ
sort_of (Message.Packet v) = packet
sort_of Message.Ack = ack

abbrev pub load_of : Message → ℕ
load_of (Message.Packet v) = v
load_of Message.Ack = 0

-- the first message of direction d
unfoldable pub head_of : List ℕ → List ℕ → List ℕ → ℕ → Head
head_of lens sorts loads d =
    if_eq (get_or lens d 0) 0 Head.Empty
    (if_eq (get_or sorts (d * 2) 0) packet (Head.Packet (get_or loads (d * 2) 0))
    (if_eq (get_or sorts (d * 2) 0) ack Head.Ack Head.Empty))

-- "A delivery whose waiting message is of the other sort is not enabled"
unfoldable pub packet_first : Head → ℕ
packet_first (Head.Packet v) = 0
packet_first Head.Ack = 16
packet_first Head.Empty = 16

unfoldable pub ack_first : Head → ℕ
ack_first (Head.Packet v) = 16
ack_first Head.Ack = 0
ack_first Head.Empty = 16

-- "kind 17 or 19 with two messages already queued"
unfoldable pub room_answer : ℕ → ℕ
room_answer len = if_lt len 2 0 18

-- the queues of all directions: how many wait, and the sort and the value of each
abbrev pub queues : List ℕ → List ℕ → List ℕ → Queues
queues lens sorts loads = record { lens = lens; sorts = sorts; loads = loads }

-- a message joins the queue of direction d at its end: "first in first out, .. with room for two", so a third would not enter
unfoldable pub pushed : Queues → ℕ → ℕ → ℕ → Queues
pushed u d sort load =
    if_lt n 2 (queues (set u.lens d (n + 1)) (set u.sorts (d * 2 + n) sort) (set u.loads (d * 2 + n) load)) u
  where
    n : ℕ
    n = get_or u.lens d 0

-- the second entry moves up, and its place is cleared
unfoldable pub moved_up : List ℕ → ℕ → List ℕ
moved_up xs d = set (set xs (d * 2) (get_or xs (d * 2 + 1) 0)) (d * 2 + 1) 0

-- the first message of direction d leaves the queue
unfoldable pub popped : Queues → ℕ → Queues
popped u d = if_lt 0 n (queues (set u.lens d (n - 1)) (moved_up u.sorts d) (moved_up u.loads d)) u
  where
    n : ℕ
    n = get_or u.lens d 0

-- "of odd and of even rounds": the slot of direction d for round i
abbrev pub slot_at : ℕ → ℕ → ℕ
slot_at d i = d * 2 + i % 2

-- "Delivery i puts it in the slot of i's parity": the value that the first message of direction d carries
unfoldable pub heard_in : List ℕ → Head → ℕ → ℕ → List ℕ
heard_in slots (Head.Packet v) d i = set slots (slot_at d i) v
heard_in slots Head.Ack d i = slots
heard_in slots Head.Empty d i = slots
