-- The twenty records as bytes, in the order of document 01's table of actions, and what the bytes hold at a place.
-- Assumes nothing.
use Rattle.std.specs.Prelude.{ℕ, ◌+◌, ◌<◌, ◌≤◌, ◌≡◌, List, [], ◌∷◌, length, get_or, take, drop}
use Rattle.automaton.specs.Actions.{Act, output, packet_sent, packet_delivered, ack_sent, ack_delivered, ok, subtree_ok_sent, subtree_ok_delivered, cluster_ok}
use Rattle.automaton.specs.Actions.{down_sent, down_delivered, preferred_sent, preferred_delivered, up_sent, up_delivered, cluster_go}
use Rattle.automaton.specs.Actions.{subtree_go_sent, subtree_go_delivered, go, input}

-- "one byte of kind, then a body whose length the kind fixes"
unfoldable pub record_of : Act → List ℕ
record_of (output p) = 16 ∷ p ∷ []
record_of (packet_sent p q) = 17 ∷ p ∷ q ∷ []
record_of (packet_delivered p q) = 18 ∷ p ∷ q ∷ []
record_of (ack_sent p q) = 19 ∷ p ∷ q ∷ []
record_of (ack_delivered p q) = 20 ∷ p ∷ q ∷ []
record_of (ok p) = 21 ∷ p ∷ []
record_of (subtree_ok_sent p) = 22 ∷ p ∷ []
record_of (subtree_ok_delivered p) = 23 ∷ p ∷ []
record_of (cluster_ok p) = 24 ∷ p ∷ []
record_of (down_sent p) = 25 ∷ p ∷ []
record_of (down_delivered p) = 26 ∷ p ∷ []
record_of (preferred_sent p q) = 27 ∷ p ∷ q ∷ []
record_of (preferred_delivered p q) = 28 ∷ p ∷ q ∷ []
record_of (up_sent p) = 29 ∷ p ∷ []
record_of (up_delivered p) = 30 ∷ p ∷ []
record_of (cluster_go p) = 31 ∷ p ∷ []
record_of (subtree_go_sent p) = 32 ∷ p ∷ []
record_of (subtree_go_delivered p) = 33 ∷ p ∷ []
record_of (go p) = 34 ∷ p ∷ []
record_of (input p) = 35 ∷ p ∷ []

-- the byte of kind
unfoldable pub kind_byte : Act → ℕ
kind_byte a = get_or (record_of a) 0 0

-- at a place of the bytes stands the record of action a, so many bytes long
pub record Names (bytes : List ℕ) (at : ℕ) (a : Act) (width : ℕ) : Type 0 where
  pub whole : width ≡ length (record_of a)
  pub stands : take (length (record_of a)) (drop at bytes) ≡ record_of a

-- 11, "kind unknown": a byte that is no kind's
pub record UnknownAt (bytes : List ℕ) (at : ℕ) : Type 0 where
  pub within : at < length bytes
  pub no_kind : (a : Act) → get_or bytes at 0 ≡ kind_byte a → ⊥

-- 12, "body cut short": no byte, or a kind's with too few behind it
pub data CutAt (bytes : List ℕ) (at : ℕ) : Type 0 where
  no_byte : length bytes ≤ at → CutAt bytes at
  too_few : (a : Act) → get_or bytes at 0 ≡ kind_byte a → length bytes < at + length (record_of a) → CutAt bytes at
