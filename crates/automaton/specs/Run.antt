-- The state after an action, and a run over a list of actions. Each part of the state says by itself which action changes it.
-- Assumes nothing.
use Rattle.std.specs.Prelude.{ℕ, suc}
use mathlib.Core.List.{List, [], ◌∷◌, ◌++◌, map, tail}
use Rattle.laws.specs.Choice.{if_b, if_eq}
use Rattle.automaton.specs.Actions.{Act, packet_sent, packet_delivered, ack_sent, ack_delivered, input, same}
use Rattle.automaton.specs.Network.{Net, neighbours}
use Rattle.automaton.specs.Global.{Msg, packet, ack, Global, parity}
use Rattle.automaton.specs.Answer.{next, answer}

-- "its count then becomes i": what taking a does to the count of b
unfoldable pub on_count : Act → Act → ℕ → ℕ
on_count a b = if_b (same a b) suc (λ k. k)

module _ {Value : Type 0} where
  -- on the queue from p to q: what is sent joins at the end, a delivery takes the first away
  unfoldable pub on_queue : Global Value → Act → ℕ → ℕ → List (Msg Value) → List (Msg Value)
  on_queue s a p q =
      if_b (same a (packet_sent p q)) (λ l. l ++ packet (s.value p) ∷ [])
      (if_b (same a (ack_sent p q)) (λ l. l ++ ack ∷ [])
      (if_b (same a (packet_delivered p q)) tail (if_b (same a (ack_delivered p q)) tail (λ l. l))))

  -- what the slot holds after the first message is taken: a packet's value
  unfoldable pub carried : List (Msg Value) → Value → Value
  carried [] old = old
  carried (packet v ∷ l) old = v
  carried (ack ∷ l) old = old

  -- "Delivery i puts it in the slot of i's parity"
  unfoldable pub on_slot : Global Value → Act → ℕ → ℕ → ℕ → Value → Value
  on_slot s a p q h =
      if_b (same a (packet_delivered p q)) (if_eq h (parity (next s a)) (carried (s.queue p q)) (λ old. old)) (λ old. old)

  -- "the values in the slots of i's parity from each neighbour"
  unfoldable pub heard : Net Value → Global Value → ℕ → ℕ → List Value
  heard net s p i = map (λ q. s.slot q p (parity i)) (neighbours net p)

  -- "Input i of p sets its value"
  unfoldable pub on_value : Net Value → Global Value → Act → ℕ → Value → Value
  on_value net s a p = if_b (same a (input p)) (λ own. net.rule own (heard net s p (next s a))) (λ own. own)

  unfoldable pub after : Net Value → Global Value → Act → Global Value
  after net s a =
      record {
        count = λ b. on_count a b (s.count b);
        queue = λ p q. on_queue s a p q (s.queue p q);
        slot = λ p q h. on_slot s a p q h (s.slot p q h);
        value = λ p. on_value net s a p (s.value p);
      }

  -- a refused action changes nothing
  unfoldable pub step : Net Value → Global Value → Act → Global Value
  step net s a = if_eq (answer net s a) 0 (after net s a) s

  unfoldable pub run : Net Value → Global Value → List Act → Global Value
  run net s [] = s
  run net s (a ∷ l) = run net (step net s a) l
