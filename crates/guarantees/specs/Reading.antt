-- How the code's network and state, which are arrays, are read as the automaton's, which are functions. With this page and
-- `automaton/specs` a reader knows what every action does; that the code's own definitions say the same is proved (`proofs/Bridge.antt`).
-- Assumes nothing.
use Rattle.std.specs.Prelude.{ℕ, ◌+◌, ◌-◌, ◌*◌, min, max, Bool, true, false, List, [], ltb, eqb, get_or}
use Rattle.laws.specs.Choice.{if_b, if_lt, if_eq, both}
use Rattle.laws.specs.Below.{first_of, list_below}
use Rattle.network.specs.declared.Network.{Network}
use Rattle.laws.specs.Mean.{rule_of}
use Rattle.automaton.specs.Actions.{Act, Place, a_node, a_link, a_preferred_link, a_child, a_root, body_of}
use Rattle.automaton.specs.Network.{Net}
use Rattle.automaton.specs.Global.{Msg, packet, ack, Global}
use Rattle.synchronizer.specs.declared.State.{State}
use Rattle.guarantees.specs.Records.{kind_byte}

-- ---- the network

-- where the link of two nodes stands in the list of links, whichever of the two is its lower end; past the list where no link joins them
unfoldable pub link_of : Network → ℕ → ℕ → ℕ
link_of net p q =
    first_of (λ l. both (eqb (get_or net.lowers l 0) (min p q)) (eqb (get_or net.uppers l 0) (max p q))) net.links

unfoldable pub joins : Network → ℕ → ℕ → Bool
joins net p q = ltb (link_of net p q) net.links

-- "flag 0 ordinary or 1 preferred"
unfoldable pub prefers : Network → ℕ → ℕ → Bool
prefers net p q = both (joins net p q) (eqb (get_or net.flags (link_of net p q) 0) 1)

unfoldable pub net_of : Network → Net ℕ
net_of net =
    record {
      n = net.nodes;
      rounds = net.rounds;
      parent = λ p. get_or net.parents p 0;
      link = joins net;
      preferred = prefers net;
      start = λ p. get_or net.starts p 0;
      unheard = 0;
      rule = rule_of;
    }

-- ---- the counts of the actions

-- the body names the two ends of a link
unfoldable pub names_link : Place → Bool
names_link a_node = false
names_link a_link = true
names_link a_preferred_link = true
names_link a_child = false
names_link a_root = false

-- ---- the state

-- every link has two directions: link l has 2 l from its lower end to its upper, and 2 l + 1 back
unfoldable pub direction_of : Network → ℕ → ℕ → ℕ
direction_of net p q = link_of net p q * 2 + if_lt p q 0 1

-- place x in the row of the action's kind: the rows stand in the order of the kinds
unfoldable pub cell_at : Act → ℕ → ℕ
cell_at a x = (kind_byte a - 16) * 256 + x

module _ (net : Network) where
  -- "the counts of every node and every direction of every link": the action has a count in the array
  unfoldable pub seated : Act → Bool
  seated a = if_b (names_link (body_of a).place) (joins net (body_of a).p (body_of a).q) (ltb (body_of a).p net.nodes)

  -- where it stands in the row of the action's kind; a row has 256 places
  unfoldable pub seat_of : Act → ℕ
  seat_of a = if_b (names_link (body_of a).place) (direction_of net (body_of a).p (body_of a).q) (body_of a).p

  unfoldable pub count_of : State → Act → ℕ
  count_of s a = if_b (seated a) (get_or s.counts (cell_at a (seat_of a)) 0) 0

-- a waiting message by its sort: 1 a packet, 2 an ack
unfoldable pub message_of : ℕ → ℕ → Msg ℕ
message_of sort load = if_eq sort 1 (packet load) ack

-- what waits in direction d, the first at the head
unfoldable pub waiting_in : State → ℕ → List (Msg ℕ)
waiting_in s d = list_below (λ j. message_of (get_or s.queues.sorts (d * 2 + j) 0) (get_or s.queues.loads (d * 2 + j) 0)) (get_or s.queues.lens d 0)

unfoldable pub read : Network → State → Global ℕ
read net s =
    record {
      count = count_of net s;
      queue = λ p q. if_b (joins net p q) (waiting_in s (direction_of net p q)) [];
      slot = λ p q h. if_b (joins net p q) (if_lt h 2 (get_or s.slots (direction_of net p q * 2 + h) 0) 0) 0;
      value = λ p. get_or s.values p 0;
    }
