-- The order of counts. An action is taken when i, its count plus one, is at most the count of each of its needs; counts never fall; so every
-- row of the table of needs is an order between counts that each action keeps. One law, `order_kept`, proves it of all twenty rows.
-- Assumes nothing.
use Prim.Native.Nat.{ℕ, suc, ◌≤◌, zero-le}
use native.Mathlib.Nat.{le_trans}
use native.Mathlib.Omega.{arith}
use mathlib.Core.Path.{◌≡◌}
use mathlib.Core.Bool.{true}
use lib.Dec.{leb}
use borrow.Author.Tests.{leb-true}
use Rattle.laws.proofs.Choice.{if_b_yes}
use Rattle.automaton.specs.Actions.{Act, same, body_of, output}
use Rattle.automaton.specs.Network.{Net}
use Rattle.automaton.specs.Needs.{Need, has, had_before, packet_first, ack_first, needs_of}
use Rattle.automaton.specs.Global.{Global}
use Rattle.automaton.specs.Answer.{met, next, in_time, enabled}
use Rattle.automaton.specs.Run.{after}
use Rattle.automaton.proofs.Lists.{Every, every_each, each_implies, each_of_all}
use Rattle.automaton.proofs.Effects.{same_self, same_elim, count_raised, count_untouched, count_grows}

-- what a need says of the counts c for i; of the queues it says nothing here
abbrev pub Holds : (Act → ℕ) → ℕ → Need → Type 0
Holds c i (has b) = i ≤ c b
Holds c i (had_before b) = i ≤ suc (c b)
Holds c i (packet_first p q) = Unit {0}
Holds c i (ack_first p q) = Unit {0}

pub record Ordered {Value : Type 0} (net : Net Value) (c : Act → ℕ) : Type 0 where
  -- an action's count is at most that of each of its needs (an output's at most one more)
  pub row : (a : Act) → Every (Holds c (c a)) (needs_of net a)
  -- no output past the last round
  pub in_rounds : (p : ℕ) → c (output p) ≤ net.rounds

holds_grows : (c d : Act → ℕ) (i : ℕ) → ((b : Act) → c b ≤ d b) → (x : Need) → Holds c i x → Holds d i x
holds_grows c d i g (has b) h = le_trans h (g b)
holds_grows c d i g (had_before b) h = omega (arith, g b)
holds_grows c d i g (packet_first p q) h = tt
holds_grows c d i g (ack_first p q) h = tt

holds_at_zero : (c : Act → ℕ) (x : Need) → Holds c 0 x
holds_at_zero c (has b) = zero-le
holds_at_zero c (had_before b) = zero-le
holds_at_zero c (packet_first p q) = tt
holds_at_zero c (ack_first p q) = tt

pub order_begins : {Value : Type 0} (net : Net Value) → Ordered net (λ a. 0)
order_begins net =
    record { row = λ a. each_of_all (holds_at_zero (λ b. 0)) (needs_of net a); in_rounds = λ p. zero-le }

module _ {Value : Type 0} (net : Net Value) (s : Global Value) where
  met_holds : (i : ℕ) (x : Need) → met s i x ≡ true → Holds s.count i x
  unfolding met
  met_holds i (has b) e = leb-true i (s.count b) e
  met_holds i (had_before b) e = leb-true i (suc (s.count b)) e
  met_holds i (packet_first p q) e = tt
  met_holds i (ack_first p q) e = tt

  -- every need of an enabled action is met, for its count plus one
  pub enabled_met : (a : Act) → enabled net s a ≡ true → Every (λ x. met s (suc (s.count a)) x ≡ true) (needs_of net a)
  unfolding enabled next
  enabled_met a = every_each (met s (suc (s.count a))) (needs_of net a)

  pub enabled_holds : (a : Act) → enabled net s a ≡ true → Every (Holds s.count (suc (s.count a))) (needs_of net a)
  enabled_holds a e = each_implies (met_holds (suc (s.count a))) (needs_of net a) (enabled_met a e)

  in_time_below : (p : ℕ) → in_time net s (output p) ≡ true → suc (s.count (output p)) ≤ net.rounds
  unfolding in_time next body_of
  in_time_below p e =
      leb-true (suc (s.count (output p))) net.rounds
      (rw
      (if_b_yes (same (output p) (output p)) (leb (suc (s.count (output p))) net.rounds) true (same_self (output p)))
      at e)

  -- a row that held of the counts before an action holds of those after it
  row_after :
      (a b : Act) (i : ℕ) → (after net s a).count b ≡ i → Every (Holds s.count i) (needs_of net b)
      → Every (Holds (after net s a).count ((after net s a).count b)) (needs_of net b)
  row_after a b i e h =
      rw e (each_implies (holds_grows s.count (after net s a).count i (count_grows net s a)) (needs_of net b) h)

  pub order_kept :
      (a : Act) → Ordered net s.count → enabled net s a ≡ true → in_time net s a ≡ true → Ordered net (after net s a).count
  order_kept a o en it =
      record {
        row =
            λ b.
            same_elim (λ x. Every (Holds (after net s x).count ((after net s x).count b)) (needs_of net b)) a b
            (λ is. row_after b b (suc (s.count b)) (count_raised net s b) (enabled_holds b (rw is at en)))
            (λ e. row_after a b (s.count b) (count_untouched net s a b e) (o.row b));
        in_rounds =
            λ p.
            same_elim (λ x. (after net s x).count (output p) ≤ net.rounds) a (output p)
            (λ is. rw (count_raised net s (output p)) (in_time_below p (rw is at it)))
            (λ e. rw (count_untouched net s a (output p) e) (o.in_rounds p));
      }
