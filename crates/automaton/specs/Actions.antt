-- The twenty actions, in the order and the words of document 01's table, and what the body of each names.
-- Assumes nothing.
use Rattle.std.specs.Prelude.{ℕ, Bool, true, false}
use Rattle.std.proofs.Math.Decide.{ℕ_discrete}

-- The numbers are node numbers; with two of them, from the first to the second.
pub data Act : Type 0 where
  -- 16
  output : ℕ → Act
  -- 17 to 20
  packet_sent packet_delivered ack_sent ack_delivered : ℕ → ℕ → Act
  -- 21
  ok : ℕ → Act
  -- 22 and 23, from p to its parent
  subtree_ok_sent subtree_ok_delivered : ℕ → Act
  -- 24, by a root
  cluster_ok : ℕ → Act
  -- 25 and 26, to p from its parent
  down_sent down_delivered : ℕ → Act
  -- 27 and 28
  preferred_sent preferred_delivered : ℕ → ℕ → Act
  -- 29 and 30, from p to its parent
  up_sent up_delivered : ℕ → Act
  -- 31, by a root
  cluster_go : ℕ → Act
  -- 32 and 33, to p from its parent
  subtree_go_sent subtree_go_delivered : ℕ → Act
  -- 34 and 35
  go input : ℕ → Act
  deriving Discrete as Act-discrete

unfoldable pub decided : {A : Type 0} → Dec A → Bool
decided (yes _) = true
decided (no _) = false

-- the two are one action: the same kind and the same numbers
unfoldable pub same : Act → Act → Bool
unfolding decided ℕ_discrete
same a b = decided (Act-discrete ℕ_discrete a b)

-- What a body has to name, or the action is refused by 14.
pub data Place : Type 0 where
  a_node a_link a_preferred_link a_child a_root : Place

-- "one or two node numbers": where there is one, q is p
pub record Body : Type 0 where
  pub place : Place
  pub p : ℕ
  pub q : ℕ

abbrev pub one : Place → ℕ → Body
one w p = record { place = w; p = p; q = p }

abbrev pub two : Place → ℕ → ℕ → Body
two w p q = record { place = w; p = p; q = q }

unfoldable pub body_of : Act → Body
body_of (output p) = one a_node p
body_of (packet_sent p q) = two a_link p q
body_of (packet_delivered p q) = two a_link p q
body_of (ack_sent p q) = two a_link p q
body_of (ack_delivered p q) = two a_link p q
body_of (ok p) = one a_node p
body_of (subtree_ok_sent p) = one a_child p
body_of (subtree_ok_delivered p) = one a_child p
body_of (cluster_ok p) = one a_root p
body_of (down_sent p) = one a_child p
body_of (down_delivered p) = one a_child p
body_of (preferred_sent p q) = two a_preferred_link p q
body_of (preferred_delivered p q) = two a_preferred_link p q
body_of (up_sent p) = one a_child p
body_of (up_delivered p) = one a_child p
body_of (cluster_go p) = one a_root p
body_of (subtree_go_sent p) = one a_child p
body_of (subtree_go_delivered p) = one a_child p
body_of (go p) = one a_node p
body_of (input p) = one a_node p
