-- One direction of a link. What was sent and not yet delivered is what waits in the queue, packets and acks alike, and a waiting packet
-- carries its sender's value after as many rounds as packets were delivered (`Line`). Four actions touch a direction (`traffic`), and each
-- keeps this, given that at most one packet is under way.
-- Assumes nothing.
use Prim.Native.Nat.{ℕ, suc, ◌+◌, ◌≤◌}
use native.Mathlib.Omega.{arith}
use mathlib.Core.Path.{◌≡◌, refl}
use mathlib.Core.Bool.{true, false≢true}
use mathlib.Core.List.{List, [], ◌∷◌, ◌++◌, tail}
use lib.ListN.{length}
use Rattle.laws.specs.Choice.{if_b}
use Rattle.automaton.specs.Actions.{Act, packet_sent, packet_delivered, ack_sent, ack_delivered, same, decided}
use Rattle.automaton.specs.Network.{Net}
use Rattle.automaton.specs.Global.{Msg, packet, ack, Global}
use Rattle.automaton.specs.Answer.{packet_at_front, ack_at_front}
use Rattle.automaton.specs.Run.{on_count, on_queue, carried, after}
use Rattle.automaton.proofs.Effects.{same_self, same_elim}

-- what the state holds of one direction
pub record Way (Value : Type 0) : Type 0 where
  pub sent : ℕ
  pub delivered : ℕ
  pub acks_sent : ℕ
  pub acks_delivered : ℕ
  pub queue : List (Msg Value)

module _ {Value : Type 0} where
  abbrev pub way_of : Global Value → ℕ → ℕ → Way Value
  way_of s p q =
      record {
        sent = s.count (packet_sent p q);
        delivered = s.count (packet_delivered p q);
        acks_sent = s.count (ack_sent p q);
        acks_delivered = s.count (ack_delivered p q);
        queue = s.queue p q;
      }

  -- ---- the four actions that touch a direction

  abbrev packet_in : Value → Way Value → Way Value
  packet_in v w =
      record {
        sent = suc w.sent;
        delivered = w.delivered;
        acks_sent = w.acks_sent;
        acks_delivered = w.acks_delivered;
        queue = w.queue ++ packet v ∷ [];
      }

  abbrev packet_out : Way Value → Way Value
  packet_out w =
      record {
        sent = w.sent;
        delivered = suc w.delivered;
        acks_sent = w.acks_sent;
        acks_delivered = w.acks_delivered;
        queue = tail w.queue;
      }

  abbrev ack_in : Way Value → Way Value
  ack_in w =
      record {
        sent = w.sent;
        delivered = w.delivered;
        acks_sent = suc w.acks_sent;
        acks_delivered = w.acks_delivered;
        queue = w.queue ++ ack ∷ [];
      }

  abbrev ack_out : Way Value → Way Value
  ack_out w =
      record {
        sent = w.sent;
        delivered = w.delivered;
        acks_sent = w.acks_sent;
        acks_delivered = suc w.acks_delivered;
        queue = tail w.queue;
      }

  -- what is to be shown of a direction after an action, by what the action does there
  pub traffic :
      (P : Way Value → Type 0) (net : Net Value) (s : Global Value) (p q : ℕ) (a : Act)
      → (a ≡ packet_sent p q → P (packet_in (s.value p) (way_of s p q))) → (a ≡ packet_delivered p q → P (packet_out (way_of s p q)))
      → (a ≡ ack_sent p q → P (ack_in (way_of s p q))) → (a ≡ ack_delivered p q → P (ack_out (way_of s p q))) → P (way_of s p q)
      → P (way_of (after net s a) p q)
  unfolding after on_count on_queue same decided if_b
  traffic P net s p q a packet_joins packet_leaves ack_joins ack_leaves untouched =
      same_elim Goal a (packet_sent p q) (λ is. rw (same_self (packet_sent p q)) (packet_joins is))
      (λ e1. same_elim Goal a (packet_delivered p q) (λ is. rw (same_self (packet_delivered p q)) (packet_leaves is))
      (λ e2. same_elim Goal a (ack_sent p q) (λ is. rw (same_self (ack_sent p q)) (ack_joins is))
      (λ e3. same_elim Goal a (ack_delivered p q) (λ is. rw (same_self (ack_delivered p q)) (ack_leaves is))
      (λ e4. rw (e1, e2, e3, e4) untouched))))
    where
      Goal : Act → Type 0
      Goal x = P (way_of (after net s x) p q)

  -- ---- what waits

  -- how many of a sort wait: the sum over the queue of what each message counts for
  unfoldable pub waiting : (Msg Value → ℕ) → List (Msg Value) → ℕ
  waiting f [] = 0
  waiting f (m ∷ l) = f m + waiting f l

  unfoldable pub a_packet : Msg Value → ℕ
  a_packet (packet v) = 1
  a_packet ack = 0

  unfoldable pub an_ack : Msg Value → ℕ
  an_ack (packet v) = 0
  an_ack ack = 1

  pub all_waiting : (l : List (Msg Value)) → waiting a_packet l + waiting an_ack l ≡ length l
  unfolding waiting a_packet an_ack
  all_waiting [] = refl
  all_waiting (packet v ∷ l) = omega (arith, all_waiting l)
  all_waiting (ack ∷ l) = omega (arith, all_waiting l)

  waiting_append : (f : Msg Value → ℕ) (l r : List (Msg Value)) → waiting f (l ++ r) ≡ waiting f l + waiting f r
  unfolding waiting
  waiting_append f [] r = omega arith
  waiting_append f (m ∷ l) r = omega (arith, waiting_append f l r)

  -- taking the first away leaves one fewer of its sort
  front_packet :
      (f : Msg Value → ℕ) (k : ℕ) → ((v : Value) → f (packet v) ≡ k) → (l : List (Msg Value)) → packet_at_front l ≡ true
      → waiting f l ≡ k + waiting f (tail l)
  unfolding packet_at_front waiting
  front_packet f k e [] t = absurd (false≢true t)
  front_packet f k e (packet v ∷ l) t = omega (arith, e v)
  front_packet f k e (ack ∷ l) t = absurd (false≢true t)

  front_ack : (f : Msg Value → ℕ) (l : List (Msg Value)) → ack_at_front l ≡ true → waiting f l ≡ f ack + waiting f (tail l)
  unfolding ack_at_front waiting
  front_ack f [] t = absurd (false≢true t)
  front_ack f (packet v ∷ l) t = absurd (false≢true t)
  front_ack f (ack ∷ l) t = refl

  -- every waiting packet carries v
  abbrev pub Carry : Value → List (Msg Value) → Type 0
  Carry v [] = Unit {0}
  Carry v (packet w ∷ l) = (w ≡ v) × Carry v l
  Carry v (ack ∷ l) = Carry v l

  carry_append : (v : Value) (l r : List (Msg Value)) → Carry v l → Carry v r → Carry v (l ++ r)
  carry_append v [] r h k = k
  carry_append v (packet w ∷ l) r h k = (h.0, carry_append v l r h.1 k)
  carry_append v (ack ∷ l) r h k = carry_append v l r h k

  carry_tail : (v : Value) (l : List (Msg Value)) → Carry v l → Carry v (tail l)
  carry_tail v [] h = tt
  carry_tail v (packet w ∷ l) h = h.1
  carry_tail v (ack ∷ l) h = h

  -- where no packet waits, each carries anything
  carry_none : (v : Value) (l : List (Msg Value)) → waiting a_packet l ≡ 0 → Carry v l
  unfolding waiting a_packet
  carry_none v [] e = tt
  carry_none v (packet w ∷ l) e = absurd (omega arith)
  carry_none v (ack ∷ l) e = carry_none v l (omega arith)

  -- what a delivery puts into the slot
  pub carried_is : (v old : Value) (l : List (Msg Value)) → Carry v l → packet_at_front l ≡ true → carried l old ≡ v
  unfolding carried packet_at_front
  carried_is v old [] h e = absurd (false≢true e)
  carried_is v old (packet w ∷ l) h e = h.0
  carried_is v old (ack ∷ l) h e = absurd (false≢true e)

  -- ---- the invariant of a direction; v k is the sender's value after k rounds

  pub record Line (v : ℕ → Value) (w : Way Value) : Type 0 where
    pub packets : waiting a_packet w.queue + w.delivered ≡ w.sent
    pub acks : waiting an_ack w.queue + w.acks_delivered ≡ w.acks_sent
    pub carry : Carry (v w.delivered) w.queue

  module _ (v : ℕ → Value) (w : Way Value) (h : Line v w) where
    pub packet_joins_lem : (x : Value) → x ≡ v w.delivered → Line v (packet_in x w)
    unfolding waiting a_packet an_ack
    packet_joins_lem x e =
        record {
          packets = omega (arith, waiting_append a_packet w.queue (packet x ∷ []), h.packets);
          acks = omega (arith, waiting_append an_ack w.queue (packet x ∷ []), h.acks);
          carry = carry_append (v w.delivered) w.queue (packet x ∷ []) h.carry (e, tt);
        }

    pub ack_joins_lem : Line v (ack_in w)
    unfolding waiting a_packet an_ack
    ack_joins_lem =
        record {
          packets = omega (arith, waiting_append a_packet w.queue (ack ∷ []), h.packets);
          acks = omega (arith, waiting_append an_ack w.queue (ack ∷ []), h.acks);
          carry = carry_append (v w.delivered) w.queue (ack ∷ []) h.carry tt;
        }

    pub packet_leaves_lem : packet_at_front w.queue ≡ true → w.sent ≤ suc w.delivered → Line v (packet_out w)
    unfolding a_packet an_ack
    packet_leaves_lem e b =
        record {
          packets = omega (arith, front_packet a_packet 1 (λ x. refl) w.queue e, h.packets);
          acks = omega (arith, front_packet an_ack 0 (λ x. refl) w.queue e, h.acks);
          carry =
              carry_none (v (suc w.delivered)) (tail w.queue)
              (omega (arith, front_packet a_packet 1 (λ x. refl) w.queue e, h.packets));
        }

    pub ack_leaves_lem : ack_at_front w.queue ≡ true → Line v (ack_out w)
    unfolding a_packet an_ack
    ack_leaves_lem e =
        record {
          packets = omega (arith, front_ack a_packet w.queue e, h.packets);
          acks = omega (arith, front_ack an_ack w.queue e, h.acks);
          carry = carry_tail (v w.delivered) w.queue h.carry;
        }
