-- Document 01's table "Actions and when each is taken": its last column, one clause a row, in its order and its words.
-- Assumes nothing.
use Rattle.std.specs.Prelude.{ℕ, List, [], ◌∷◌, ◌++◌, map}
use Rattle.laws.specs.Choice.{if_b}
use Rattle.automaton.specs.Actions.{Act, output, packet_sent, packet_delivered, ack_sent, ack_delivered, ok}
use Rattle.automaton.specs.Actions.{subtree_ok_sent, subtree_ok_delivered, cluster_ok, down_sent, down_delivered}
use Rattle.automaton.specs.Actions.{preferred_sent, preferred_delivered, up_sent, up_delivered, cluster_go}
use Rattle.automaton.specs.Actions.{subtree_go_sent, subtree_go_delivered, go, input}
use Rattle.automaton.specs.Network.{Net, is_root, neighbours, children, preferred_neighbours}

-- What an action waits for. "Let i be that count plus one."
pub data Need : Type 0 where
  -- "'Has X' means X's count is at least i"
  has : Act → Need
  -- X's count is at least i − 1
  had_before : Act → Need
  -- "a packet is first on p to q", "an ack is first on p to q"
  packet_first ack_first : ℕ → ℕ → Need

module _ {Value : Type 0} (net : Net Value) where
  -- "A root knows by 24, another node by 26"
  unfoldable pub know : ℕ → Act
  know p = if_b (is_root net p) (cluster_ok p) (down_delivered p)

  -- "A root may go by 31, another by 33"
  unfoldable pub may : ℕ → Act
  may p = if_b (is_root net p) (cluster_go p) (subtree_go_delivered p)

  -- "p has ok, and subtree ok delivered from every child"
  unfoldable pub subtree_needs : ℕ → List Need
  subtree_needs p = has (ok p) ∷ map (λ c. has (subtree_ok_delivered c)) (children net p)

  -- "p knows, up delivered from every child, preferred word delivered to p on each of its preferred links"
  unfoldable pub up_needs : ℕ → List Need
  up_needs p =
      has (know p) ∷ map (λ c. has (up_delivered c)) (children net p)
      ++ map (λ q. has (preferred_delivered q p)) (preferred_neighbours net p)

  unfoldable pub needs_of : Act → List Need
  -- 16 output: "i ≤ rounds; inputs of p at least i − 1" (the first of the two is answer 15)
  needs_of (output p) = had_before (input p) ∷ []
  -- 17 packet sent: "p has output"
  needs_of (packet_sent p q) = has (output p) ∷ []
  -- 18 packet delivered: "sent; a packet is first on p to q"
  needs_of (packet_delivered p q) = has (packet_sent p q) ∷ packet_first p q ∷ []
  -- 19 ack sent: "packet q to p delivered"
  needs_of (ack_sent p q) = has (packet_delivered q p) ∷ []
  -- 20 ack delivered: "sent; an ack is first on p to q"
  needs_of (ack_delivered p q) = has (ack_sent p q) ∷ ack_first p q ∷ []
  -- 21 ok: "output; ack delivered from every neighbour"
  needs_of (ok p) = has (output p) ∷ map (λ q. has (ack_delivered q p)) (neighbours net p)
  -- 22, 23 subtree ok sent to parent; delivered: "p has ok, and subtree ok delivered from every child; sent"
  needs_of (subtree_ok_sent p) = subtree_needs p
  needs_of (subtree_ok_delivered p) = has (subtree_ok_sent p) ∷ []
  -- 24 cluster ok (root): "same needs as 22"
  needs_of (cluster_ok p) = subtree_needs p
  -- 25, 26 down word sent to p by its parent; delivered: "parent knows; sent"
  needs_of (down_sent p) = has (know (net.parent p)) ∷ []
  needs_of (down_delivered p) = has (down_sent p) ∷ []
  -- 27, 28 preferred word sent; delivered: "p knows; sent"
  needs_of (preferred_sent p q) = has (know p) ∷ []
  needs_of (preferred_delivered p q) = has (preferred_sent p q) ∷ []
  -- 29, 30 up word sent to parent; delivered: "p knows, up delivered from every child, preferred word delivered to p on each of its
  -- preferred links; sent"
  needs_of (up_sent p) = up_needs p
  needs_of (up_delivered p) = has (up_sent p) ∷ []
  -- 31 cluster go (root): "same needs as 29"
  needs_of (cluster_go p) = up_needs p
  -- 32, 33 subtree go sent to p by its parent; delivered: "parent may go; sent"
  needs_of (subtree_go_sent p) = has (may (net.parent p)) ∷ []
  needs_of (subtree_go_delivered p) = has (subtree_go_sent p) ∷ []
  -- 34 go: "p may go"
  needs_of (go p) = has (may p) ∷ []
  -- 35 input: "p has go"
  needs_of (input p) = has (go p) ∷ []
