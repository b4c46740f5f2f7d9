-- What an action changes, part by part of the state: its own count; the slot that a delivery writes; the value that an input sets. (The queues
-- are in `Lines`.) No other action changes any of them, so that a proof splits on whether an action is a certain one (`same_elim`), and
-- never on the twenty kinds.
-- Assumes nothing.
use Prim.Native.Nat.{ℕ, suc, ◌≤◌}
use native.Mathlib.Nat.{le_refl}
use native.Mathlib.Omega.{arith}
use native.Mathlib.Decide.{ℕ_discrete}
use mathlib.Core.Path.{◌≡◌, refl, sym, ◌∙◌, ap, subst}
use mathlib.Core.Bool.{Bool, true, false, false≢true}
use Rattle.laws.specs.Choice.{if_b, if_eq}
use Rattle.laws.proofs.Choice.{if_b_yes, if_b_no, if_eq_yes, if_eq_no, b_elim}
use Rattle.automaton.specs.Actions.{Act, Act-discrete, decided, same, packet_delivered, input}
use Rattle.automaton.specs.Network.{Net}
use Rattle.automaton.specs.Global.{Global, parity}
use Rattle.automaton.specs.Answer.{next}
use Rattle.automaton.specs.Run.{on_count, carried, on_slot, heard, on_value, after}

-- ---- whether an action is a certain one

pub same_eq : (a b : Act) → same a b ≡ true → a ≡ b
unfolding same decided
same_eq a b = at (Act-discrete ℕ_discrete a b)
  where
    at : (d : Dec (a ≡ b)) → decided d ≡ true → a ≡ b
    at (yes e) t = e
    at (no _) t = absurd (false≢true t)

pub same_self : (a : Act) → same a a ≡ true
unfolding same decided
same_self a = at (Act-discrete ℕ_discrete a a)
  where
    at : (d : Dec (a ≡ a)) → decided d ≡ true
    at (yes e) = refl
    at (no d) = absurd (d refl)

pub same_elim : (P : Act → Type 0) (a b : Act) → (a ≡ b → P b) → (same a b ≡ false → P a) → P a
same_elim P a b is other = at (same a b) refl
  where
    at : (t : Bool) → same a b ≡ t → P a
    at true e = let i = same_eq a b e in subst P (sym i) (is i)
    at false e = other e

-- ---- a change that a test picks, at the thing changed

yes_at : {A : Type 0} (t : Bool) (f g : A → A) (x : A) → t ≡ true → if_b t f g x ≡ f x
yes_at {A} t f g x e = ap (λ (h : A → A). h x) (if_b_yes t f g e)

no_at : {A : Type 0} (t : Bool) (f g : A → A) (x : A) → t ≡ false → if_b t f g x ≡ g x
no_at {A} t f g x e = ap (λ (h : A → A). h x) (if_b_no t f g e)

module _ {Value : Type 0} (net : Net Value) (s : Global Value) where
  -- ---- counts

  pub count_raised : (a : Act) → (after net s a).count a ≡ suc (s.count a)
  unfolding after on_count
  count_raised a = yes_at (same a a) suc (λ k. k) (s.count a) (same_self a)

  pub count_untouched : (a b : Act) → same a b ≡ false → (after net s a).count b ≡ s.count b
  unfolding after on_count
  count_untouched a b = no_at (same a b) suc (λ k. k) (s.count b)

  pub count_grows : (a b : Act) → s.count b ≤ (after net s a).count b
  unfolding after on_count
  count_grows a b =
      b_elim (λ (f : ℕ → ℕ). s.count b ≤ f (s.count b)) (same a b) suc (λ k. k) (λ e. omega arith) (λ e. le_refl (s.count b))

  -- ---- slots

  module _ (p q i : ℕ) where
    -- what action a would make of the slot, were it a delivery from p to q
    written : Act → Value → Value
    written a = if_eq i (parity (suc (s.count a))) (carried (s.queue p q)) (λ old. old)

    at_delivery : (after net s (packet_delivered p q)).slot p q i ≡ written (packet_delivered p q) (s.slot p q i)
    unfolding after on_slot next written
    at_delivery =
        yes_at (same (packet_delivered p q) (packet_delivered p q)) (written (packet_delivered p q)) (λ old. old) (s.slot p q i)
        (same_self (packet_delivered p q))

    pub slot_written :
        i ≡ parity (suc (s.count (packet_delivered p q)))
        → (after net s (packet_delivered p q)).slot p q i ≡ carried (s.queue p q) (s.slot p q i)
    unfolding written
    slot_written e =
        at_delivery
        ∙ ap (λ (f : Value → Value). f (s.slot p q i))
        (if_eq_yes i (parity (suc (s.count (packet_delivered p q)))) (carried (s.queue p q)) (λ old. old) e)

    pub slot_spared :
        (i ≡ parity (suc (s.count (packet_delivered p q))) → ⊥)
        → (after net s (packet_delivered p q)).slot p q i ≡ s.slot p q i
    unfolding written
    slot_spared d =
        at_delivery
        ∙ ap (λ (f : Value → Value). f (s.slot p q i))
        (if_eq_no i (parity (suc (s.count (packet_delivered p q)))) (carried (s.queue p q)) (λ old. old) d)

    pub slot_untouched : (a : Act) → same a (packet_delivered p q) ≡ false → (after net s a).slot p q i ≡ s.slot p q i
    unfolding after on_slot next written
    slot_untouched a = no_at (same a (packet_delivered p q)) (written a) (λ old. old) (s.slot p q i)

  -- ---- values

  pub value_set : (p : ℕ) → (after net s (input p)).value p ≡ net.rule (s.value p) (heard net s p (suc (s.count (input p))))
  unfolding after on_value next
  value_set p =
      yes_at (same (input p) (input p)) (λ own. net.rule own (heard net s p (suc (s.count (input p))))) (λ own. own) (s.value p)
      (same_self (input p))

  pub value_untouched : (p : ℕ) (a : Act) → same a (input p) ≡ false → (after net s a).value p ≡ s.value p
  unfolding after on_value next
  value_untouched p a =
      no_at (same a (input p)) (λ own. net.rule own (heard net s p (suc (s.count a)))) (λ own. own) (s.value p)
