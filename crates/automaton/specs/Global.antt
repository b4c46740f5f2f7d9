-- The state of all nodes and links.
-- Assumes nothing.
use Rattle.std.specs.Prelude.{ℕ, ◌%◌, List, []}
use Rattle.automaton.specs.Actions.{Act}
use Rattle.automaton.specs.Network.{Net}

-- what waits on a link: "A packet carries the value its sender has when the packet is sent"
pub data Msg (Value : Type 0) : Type 0 where
  packet : Value → Msg Value
  ack : Msg Value

-- "The state holds the counts of every node and every direction of every link, the queues, each node's value, and for each direction the
-- last two packets heard, of odd and of even rounds"
pub record Global (Value : Type 0) : Type 0 where
  -- "Every action has a count of times taken"
  pub count : Act → ℕ
  -- from p to q: "Each direction of a link is one queue, first in first out, shared by packets and acks"; the first stands at the head
  pub queue : ℕ → ℕ → List (Msg Value)
  -- from p to q, by parity
  pub slot : ℕ → ℕ → ℕ → Value
  pub value : ℕ → Value

-- "the slot of i's parity"
unfoldable pub parity : ℕ → ℕ
parity i = i % 2

-- "In the start state all counts and slots are 0, queues are empty and values are the plan's"
unfoldable pub begin : {Value : Type 0} → Net Value → Global Value
begin net = record { count = λ a. 0; queue = λ p q. []; slot = λ p q h. net.unheard; value = net.start }
