-- Room in the queues. On each link at most one packet and one ack wait (`one_of_each`); a packet or an ack that may be sent finds none of its
-- own sort waiting; so a send always finds room, and 18 is no answer to any action from a start state (`never_full`).
-- Assumes nothing.
use Prim.Native.Nat.{ℕ, ◌≤◌, ◌<◌}
use native.Mathlib.Omega.{arith}
use mathlib.Core.Path.{◌≡◌, refl, sym, ◌∙◌}
use mathlib.Core.Bool.{true}
use lib.Dec.{ltb}
use lib.ListN.{length}
use borrow.Author.Tests.{lt-ltb}
use Rattle.laws.proofs.Choice.{if_b_yes, b_elim}
use Rattle.automaton.specs.Actions.{Act, same, body_of, packet_sent, ack_sent}
use Rattle.automaton.specs.Network.{Net}
use Rattle.automaton.specs.Accepted.{Accepted}
use Rattle.automaton.specs.Needs.{needs_of}
use Rattle.automaton.specs.Global.{Global}
use Rattle.automaton.specs.Answer.{sends, must, room, answer}
use Rattle.automaton.proofs.Effects.{same_eq}
use Rattle.automaton.proofs.Order.{enabled_holds}
use Rattle.automaton.proofs.Chains.{output_input}
use Rattle.automaton.proofs.Links.{Ends, ends_back, input_delivered, packet_ahead, delivered_ahead, ack_ahead}
use Rattle.automaton.proofs.Lines.{waiting, a_packet, an_ack, all_waiting}
use Rattle.automaton.proofs.Runs.{Allowed, ends_of, answer_allowed}
use Rattle.automaton.proofs.Values.{Held}

-- a send is a packet's or an ack's
sends_elim : (P : Type 0) (a : Act) (p q : ℕ) → (a ≡ packet_sent p q → P) → (a ≡ ack_sent p q → P) → sends a p q ≡ true → P
unfolding sends
sends_elim P a p q isPacket isAck =
    b_elim (λ t. t ≡ true → P) (same a (packet_sent p q)) true (same a (ack_sent p q)) (λ e _. isPacket (same_eq a (packet_sent p q) e))
    (λ _ e. isAck (same_eq a (ack_sent p q) e))

module _ {Value : Type 0} (net : Net Value) (acc : Accepted net) (s : Global Value) (h : Held net s) where
  pub one_of_each : (p q : ℕ) → Ends net p q → (waiting a_packet (s.queue p q) ≤ 1) × (waiting an_ack (s.queue p q) ≤ 1)
  one_of_each p q on = (
    omega (arith, (h.lines p q).packets, packet_ahead net acc s.count h.order p q on),
    omega (arith, (h.lines p q).acks, ack_ahead net acc s.count h.order q p (ends_back net acc p q on)),
  )

  packet_fits : (p q : ℕ) → Allowed net s (packet_sent p q) → length (s.queue p q) < 2
  unfolding needs_of body_of
  packet_fits p q t =
      let on = ends_of net s (packet_sent p q) p q t refl in
      omega (
        arith,
        all_waiting (s.queue p q),
        one_of_each p q on,
        (h.lines p q).packets,
        enabled_holds net s (packet_sent p q) t.is_enabled,
        output_input net acc s.count h.order p,
        input_delivered net acc s.count h.order p q on,
      )

  ack_fits : (p q : ℕ) → Allowed net s (ack_sent p q) → length (s.queue p q) < 2
  unfolding needs_of body_of
  ack_fits p q t =
      let on = ends_of net s (ack_sent p q) p q t refl in
      omega (
        arith,
        all_waiting (s.queue p q),
        one_of_each p q on,
        (h.lines p q).acks,
        enabled_holds net s (ack_sent p q) t.is_enabled,
        delivered_ahead net acc s.count h.order q p (ends_back net acc p q on),
      )

  pub always_room : (a : Act) → Allowed net s a → room s a ≡ true
  unfolding room
  always_room a t =
      b_elim (λ b. b ≡ true) (sends a p q) (ltb (length (s.queue p q)) 2) true (λ e. lt-ltb (length (s.queue p q)) 2 (short e)) (λ _. refl)
    where
      p : ℕ
      p = (body_of a).p

      q : ℕ
      q = (body_of a).q

      short : sends a p q ≡ true → length (s.queue p q) < 2
      short = sends_elim (length (s.queue p q) < 2) a p q (λ is. packet_fits p q (rw is at t)) (λ is. ack_fits p q (rw is at t))

  pub never_full : (a : Act) → answer net s a ≡ 18 → ⊥
  unfolding must
  never_full a e =
      let t = answer_allowed net s a 18 e (λ d. omega arith) (λ d. omega arith) (λ d. omega arith) (λ d. omega arith) in
      let z : ◌≡◌ {A = ℕ} 0 18 = sym (if_b_yes (room s a) 0 18 (always_room a t.0)) ∙ t.1 in
      omega arith
