-- The values. From the start, every state that a run reaches is `Held`: counts in order; each queue holding what was sent and not yet
-- delivered; each slot the packet of its round; each node the lockstep value of the rounds it finished. A packet is sent when its sender has
-- finished as many rounds as packets were delivered, so it carries the value of that many rounds. And at an input every neighbour's packet of
-- that round was delivered and at most the next one after it, so the slot of the round's parity still holds it.
-- Assumes nothing.
use Prim.Native.Nat.{ℕ, suc, ◌+◌, ◌≤◌, ◌<◌}
use native.Mathlib.Nat.{not-suc-le-zero}
use native.Mathlib.Omega.{arith}
use native.Mathlib.Decide.{ℕ_discrete}
use mathlib.Core.Path.{◌≡◌, refl, ◌∙◌, ap, ap₂}
use mathlib.Core.Bool.{true, false}
use Rattle.automaton.specs.Actions.{Act, same, body_of, packet_sent, packet_delivered, ack_delivered, go, input}
use Rattle.automaton.specs.Network.{Net, neighbours}
use Rattle.automaton.specs.Accepted.{Accepted}
use Rattle.automaton.specs.Needs.{needs_of}
use Rattle.automaton.specs.Global.{Global, parity, begin}
use Rattle.automaton.specs.Answer.{packet_at_front, ack_at_front, met}
use Rattle.automaton.specs.Run.{heard, after}
use Rattle.automaton.specs.Lockstep.{lockstep}
use Rattle.automaton.proofs.Lists.{map_same, picked_all}
use Rattle.automaton.proofs.Effects.{same_elim, count_raised, count_untouched}
use Rattle.automaton.proofs.Effects.{slot_written, slot_spared, slot_untouched, value_set, value_untouched}
use Rattle.automaton.proofs.Order.{Ordered, order_begins, order_kept, enabled_met, enabled_holds}
use Rattle.automaton.proofs.Chains.{output_input}
use Rattle.automaton.proofs.Links.{Ends, ends_back, input_delivered, packet_ahead, delivered_input, may_delivered}
use Rattle.automaton.proofs.Lines.{way_of, waiting, traffic, Line, packet_joins_lem, ack_joins_lem, packet_leaves_lem, ack_leaves_lem, carried_is}
use Rattle.automaton.proofs.Runs.{Allowed, ends_of, node_below}

-- of the packets delivered from p to q, the last two stand in the slots of their rounds' parities: packet k + 1 has the value of k rounds
abbrev pub Heard : {Value : Type 0} → Net Value → Global Value → ℕ → ℕ → Type 0
Heard net s p q =
    (k : ℕ) → k < s.count (packet_delivered p q) → s.count (packet_delivered p q) ≤ k + 2
    → s.slot p q (parity (suc k)) ≡ lockstep net k p

pub record Held {Value : Type 0} (net : Net Value) (s : Global Value) : Type 0 where
  pub order : Ordered net s.count
  -- each direction holds what was sent and not yet delivered, packets with the sender's value
  pub lines : (p q : ℕ) → Line (λ k. lockstep net k p) (way_of s p q)
  pub slots : (p q : ℕ) → Heard net s p q
  -- a node that finished k rounds holds the value of k lockstep rounds
  pub values : (p : ℕ) → s.value p ≡ lockstep net (s.count (input p)) p

pub held_begins : {Value : Type 0} (net : Net Value) → Held net (begin net)
unfolding begin lockstep waiting
held_begins net =
    record {
      order = order_begins net;
      lines = λ p q. record { packets = refl; acks = refl; carry = tt };
      slots = λ p q k lo hi. absurd (not-suc-le-zero lo);
      values = λ p. refl;
    }

-- the round before the last has the other parity
other_parity : (k d : ℕ) → k < suc d → suc d ≤ k + 2 → (k ≡ d → ⊥) → parity (suc k) ≡ parity (suc d) → ⊥
unfolding parity
other_parity k d lo hi apart e = apart (omega arith)

module _ {Value : Type 0} (net : Net Value) (acc : Accepted net) (s : Global Value) (h : Held net s) where
  -- ---- a direction of a link

  -- when a packet is sent, its sender has finished as many rounds as packets were delivered
  sent_rounds : (p q : ℕ) → Allowed net s (packet_sent p q) → s.count (input p) ≡ s.count (packet_delivered p q)
  unfolding needs_of body_of
  sent_rounds p q t =
      omega (
        arith,
        enabled_holds net s (packet_sent p q) t.is_enabled,
        output_input net acc s.count h.order p,
        input_delivered net acc s.count h.order p q (ends_of net s (packet_sent p q) p q t refl),
        h.order.row (packet_delivered p q),
      )

  sent_value : (p q : ℕ) → Allowed net s (packet_sent p q) → s.value p ≡ lockstep net (s.count (packet_delivered p q)) p
  sent_value p q t = h.values p ∙ ap (λ k. lockstep net k p) (sent_rounds p q t)

  one_under_way : (p q : ℕ) → Allowed net s (packet_delivered p q) → s.count (packet_sent p q) ≤ suc (s.count (packet_delivered p q))
  unfolding body_of
  one_under_way p q t = packet_ahead net acc s.count h.order p q (ends_of net s (packet_delivered p q) p q t refl)

  packet_first_lem : (p q : ℕ) → Allowed net s (packet_delivered p q) → packet_at_front (s.queue p q) ≡ true
  unfolding needs_of met
  packet_first_lem p q t = (enabled_met net s (packet_delivered p q) t.is_enabled).1.0

  ack_first_lem : (p q : ℕ) → Allowed net s (ack_delivered p q) → ack_at_front (s.queue p q) ≡ true
  unfolding needs_of met
  ack_first_lem p q t = (enabled_met net s (ack_delivered p q) t.is_enabled).1.0

  lines_kept : (a : Act) → Allowed net s a → (p q : ℕ) → Line (λ k. lockstep net k p) (way_of (after net s a) p q)
  lines_kept a t p q =
      traffic (Line v) net s p q a
      (λ is. packet_joins_lem v (way_of s p q) (h.lines p q) (s.value p) (sent_value p q (rw is at t)))
      (λ is. packet_leaves_lem v (way_of s p q) (h.lines p q) (packet_first_lem p q (rw is at t)) (one_under_way p q (rw is at t)))
      (λ is. ack_joins_lem v (way_of s p q) (h.lines p q))
      (λ is. ack_leaves_lem v (way_of s p q) (h.lines p q) (ack_first_lem p q (rw is at t)))
      (h.lines p q)
    where
      v : ℕ → Value
      v k = lockstep net k p

  -- ---- slots

  slots_kept : (a : Act) → Allowed net s a → (p q : ℕ) → Heard net (after net s a) p q
  slots_kept a t p q =
      same_elim (λ x. Allowed net s x → Heard net (after net s x) p q) a (packet_delivered p q)
      (λ _ on k lo hi. at_delivery on k (rw raised at lo) (rw raised at hi) (ℕ_discrete k (s.count (packet_delivered p q))))
      (λ e _ k lo hi. slot_untouched net s p q (parity (suc k)) a e ∙ h.slots p q k (rw (as_before e) at lo) (rw (as_before e) at hi))
      t
    where
      raised : (after net s (packet_delivered p q)).count (packet_delivered p q) ≡ suc (s.count (packet_delivered p q))
      raised = count_raised net s (packet_delivered p q)

      as_before : same a (packet_delivered p q) ≡ false → (after net s a).count (packet_delivered p q) ≡ s.count (packet_delivered p q)
      as_before = count_untouched net s a (packet_delivered p q)

      at_delivery :
          Allowed net s (packet_delivered p q) → (k : ℕ) → k < suc (s.count (packet_delivered p q))
          → suc (s.count (packet_delivered p q)) ≤ k + 2 → Dec (k ≡ s.count (packet_delivered p q))
          → (after net s (packet_delivered p q)).slot p q (parity (suc k)) ≡ lockstep net k p
      at_delivery on k lo hi (yes e) =
          slot_written net s p q (parity (suc k)) (ap (λ j. parity (suc j)) e)
          ∙ carried_is (lockstep net k p) (s.slot p q (parity (suc k))) (s.queue p q) (rw e (h.lines p q).carry) (packet_first_lem p q on)
      at_delivery on k lo hi (no d) =
          slot_spared net s p q (parity (suc k)) (other_parity k (s.count (packet_delivered p q)) lo hi d)
          ∙ h.slots p q k (omega arith) (omega arith)

  -- ---- values

  -- at an input of p, the slot from each neighbour q holds q's value of the rounds that p finished
  heard_from :
      (p : ℕ) → Allowed net s (input p) → (q : ℕ) → q < net.n → net.link p q ≡ true
      → s.slot q p (parity (suc (s.count (input p)))) ≡ lockstep net (s.count (input p)) q
  unfolding needs_of body_of
  heard_from p t q hq l =
      let on : Ends net p q = record { p_below = node_below net s (input p) t; q_below = hq; linked = l } in
      h.slots q p (s.count (input p))
      (omega (
        arith,
        enabled_holds net s (input p) t.is_enabled,
        h.order.row (go p),
        may_delivered net acc s.count h.order p q on,
      ))
      (delivered_input net acc s.count h.order q p (ends_back net acc p q on))

  next_value :
      (p : ℕ) → Allowed net s (input p)
      → net.rule (s.value p) (heard net s p (suc (s.count (input p)))) ≡ lockstep net (suc (s.count (input p))) p
  unfolding lockstep heard neighbours
  next_value p t =
      let k = s.count (input p) in
      ap₂ net.rule (h.values p)
      (map_same (λ q. s.slot q p (parity (suc k))) (lockstep net k) (neighbours net p)
      (picked_all (λ q. s.slot q p (parity (suc k)) ≡ lockstep net k q) (net.link p) net.n (heard_from p t)))

  values_kept : (a : Act) → Allowed net s a → (p : ℕ) → (after net s a).value p ≡ lockstep net ((after net s a).count (input p)) p
  values_kept a t p =
      same_elim (λ x. Allowed net s x → (after net s x).value p ≡ lockstep net ((after net s x).count (input p)) p) a (input p)
      (λ _ on. rw (count_raised net s (input p)) (value_set net s p ∙ next_value p on))
      (λ e _. rw (count_untouched net s a (input p) e) (value_untouched net s p a e ∙ h.values p))
      t

  pub held_kept : (a : Act) → Allowed net s a → Held net (after net s a)
  held_kept a t =
      record {
        order = order_kept net s a h.order t.is_enabled t.is_in_time;
        lines = lines_kept a t;
        slots = slots_kept a t;
        values = values_kept a t;
      }
