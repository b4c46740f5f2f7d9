-- What a queue's first message says of a delivery: that it is none of the other sort.
-- Assumes nothing.
use Prim.Native.Nat.{ℕ}
use mathlib.Core.Path.{◌≡◌, refl}
use mathlib.Core.List.{List}
use Rattle.queue.specs.declared.Head.{Head}
use Rattle.queue.specs.Queue.{packet_first, ack_first, heard_in}

pub no_packet : (h : Head) → ((v : ℕ) → h ≡ Head.Packet v → ⊥) → 16 ≡ packet_first h
unfolding packet_first
no_packet (Head.Packet v) t = absurd (t v refl)
no_packet Head.Ack t = refl
no_packet Head.Empty t = refl

pub no_ack : (h : Head) → (h ≡ Head.Ack → ⊥) → 16 ≡ ack_first h
unfolding ack_first
no_ack (Head.Packet v) t = refl
no_ack Head.Ack t = absurd (t refl)
no_ack Head.Empty t = refl

module _ (slots : List ℕ) (d i : ℕ) where
  -- what is no packet is not heard
  pub nothing_heard : (h : Head) → ((v : ℕ) → h ≡ Head.Packet v → ⊥) → slots ≡ heard_in slots h d i
  unfolding heard_in
  nothing_heard (Head.Packet v) t = absurd (t v refl)
  nothing_heard Head.Ack t = refl
  nothing_heard Head.Empty t = refl
