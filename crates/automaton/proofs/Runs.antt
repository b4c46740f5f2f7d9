-- From one action to any list. An action that is taken passed every test (`Allowed`), and a refused one changes nothing: so what every allowed
-- action keeps holds after any list of actions (`kept_by_run`).
-- Assumes nothing.
use Prim.Native.Nat.{ℕ, ◌<◌}
use native.Mathlib.Omega.{arith}
use mathlib.Core.Path.{◌≡◌, refl, ◌∙◌}
use mathlib.Core.Bool.{Bool, true, false}
use mathlib.Core.List.{List, [], ◌∷◌}
use lib.Dec.{ltb}
use borrow.Author.Tests.{ltb-true}
use Rattle.laws.specs.Choice.{if_b, if_eq}
use Rattle.laws.proofs.Choice.{if_b_yes, eq_elim, both_left, both_right}
use Rattle.automaton.specs.Actions.{Act, two, a_link, body_of}
use Rattle.automaton.specs.Network.{Net}
use Rattle.automaton.specs.Global.{Global}
use Rattle.automaton.specs.Answer.{must, fits, known, legal, in_time, enabled, room, answer}
use Rattle.automaton.specs.Run.{after, step, run}
use Rattle.automaton.proofs.Links.{Ends}

-- none of 13, 14, 15, 16 applies
pub record Allowed {Value : Type 0} (net : Net Value) (s : Global Value) (a : Act) : Type 0 where
  pub is_known : known net a ≡ true
  pub is_legal : legal net a ≡ true
  pub is_in_time : in_time net s a ≡ true
  pub is_enabled : enabled net s a ≡ true

-- 13 leaves a node below the node count
pub node_below : {Value : Type 0} (net : Net Value) (s : Global Value) (a : Act) → Allowed net s a → (body_of a).p < net.n
unfolding known
node_below net s a t =
    ltb-true (body_of a).p net.n (both_left (ltb (body_of a).p net.n) (ltb (body_of a).q net.n) t.is_known)

-- 13 and 14 leave the two ends of a link
pub ends_of :
    {Value : Type 0} (net : Net Value) (s : Global Value) (a : Act) (p q : ℕ) → Allowed net s a → body_of a ≡ two a_link p q → Ends net p q
unfolding known legal fits
ends_of net s a p q t e =
    record {
      p_below = ltb-true p net.n (both_left (ltb p net.n) (ltb q net.n) (rw e at t.is_known));
      q_below = ltb-true q net.n (both_right (ltb p net.n) (ltb q net.n) (rw e at t.is_known));
      linked = rw e at t.is_legal;
    }

-- ---- the answer, from the tests and back

-- where the answer is not k, the test held and the rest gave it
passed : (t : Bool) (k rest m : ℕ) → must t k rest ≡ m → (k ≡ m → ⊥) → (t ≡ true) × (rest ≡ m)
unfolding must if_b
passed true k rest m e d = (refl, e)
passed false k rest m e d = absurd (d e)

pass : (t : Bool) (k rest : ℕ) → t ≡ true → must t k rest ≡ rest
unfolding must
pass t k rest = if_b_yes t rest k

module _ {Value : Type 0} (net : Net Value) where
  -- where none of 13, 14, 15, 16 is the answer, the room in the queue decides it
  module _ (s : Global Value) (a : Act) where
    pub answer_allowed :
        (m : ℕ) → answer net s a ≡ m → (13 ≡ m → ⊥) → (14 ≡ m → ⊥) → (15 ≡ m → ⊥) → (16 ≡ m → ⊥)
        → Allowed net s a × (must (room s a) 18 0 ≡ m)
    unfolding answer
    answer_allowed m e d13 d14 d15 d16 =
        let from18 = must (room s a) 18 0 in
        let from16 = must (enabled net s a) 16 from18 in
        let from15 = must (in_time net s a) 15 from16 in
        let not13 = passed (known net a) 13 (must (legal net a) 14 from15) m e d13 in
        let not14 = passed (legal net a) 14 from15 m not13.1 d14 in
        let not15 = passed (in_time net s a) 15 from16 m not14.1 d15 in
        let not16 = passed (enabled net s a) 16 from18 m not15.1 d16 in
        (record { is_known = not13.0; is_legal = not14.0; is_in_time = not15.0; is_enabled = not16.0 }, not16.1)

    pub allowed_answer : Allowed net s a → answer net s a ≡ must (room s a) 18 0
    unfolding answer
    allowed_answer h =
        let from18 = must (room s a) 18 0 in
        let from16 = must (enabled net s a) 16 from18 in
        let from15 = must (in_time net s a) 15 from16 in
        pass (known net a) 13 (must (legal net a) 14 from15) h.is_known
        ∙ pass (legal net a) 14 from15 h.is_legal
        ∙ pass (in_time net s a) 15 from16 h.is_in_time
        ∙ pass (enabled net s a) 16 from18 h.is_enabled

    taken_allowed : answer net s a ≡ 0 → Allowed net s a
    taken_allowed e = (answer_allowed 0 e (λ d. omega arith) (λ d. omega arith) (λ d. omega arith) (λ d. omega arith)).0

  pub kept_by_run :
      (P : Global Value → Type 0) → ((s : Global Value) (a : Act) → P s → Allowed net s a → P (after net s a))
      → (l : List Act) (s : Global Value) → P s → P (run net s l)
  unfolding run step
  kept_by_run P keeps [] s h = h
  kept_by_run P keeps (a ∷ l) s h =
      kept_by_run P keeps l (if_eq (answer net s a) 0 (after net s a) s)
      (eq_elim P (answer net s a) 0 (after net s a) s (λ e. keeps s a h (taken_allowed s a e)) (λ _. h))
