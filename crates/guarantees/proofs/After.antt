-- For every network and state that 17 lets pass and every action: the code's answer is the automaton's, and where the action is taken the state that
-- follows is read as the automaton's, part by part.
-- Assumes nothing.
use Prim.Native.Nat.{ℕ}
use native.Mathlib.Omega.{arith}
use mathlib.Core.Path.{◌≡◌, refl}
use mathlib.Core.Bool.{Bool, true, false}
use lib.Dec.{ltb}
use Rattle.laws.specs.Choice.{if_b}
use Rattle.laws.proofs.Choice.{both_left}
use Rattle.network.specs.declared.Network.{Network}
use Rattle.network.specs.Valid.{valid_network}
use Rattle.synchronizer.specs.declared.State.{State}
use Rattle.synchronizer.specs.Answer.{answer_of}
use Rattle.synchronizer.specs.After.{after_of}
use Rattle.synchronizer.specs.Valid.{valid_state, Sized}
use Rattle.synchronizer.proofs.States.{valid_state_clauses}
use Rattle.automaton.specs.Actions.{Act, body_of}
use Rattle.automaton.specs.Network.{Net}
use Rattle.automaton.specs.Global.{Global}
use Rattle.automaton.specs.Answer.{must, known, room, answer}
use Rattle.automaton.specs.Run.{after}
use Rattle.automaton.proofs.Runs.{Allowed, answer_allowed}
use Rattle.guarantees.specs.Kinds.{kind_of}
use Rattle.guarantees.specs.Reading.{net_of, read}
use Rattle.guarantees.proofs.Tables.{doing}
use Rattle.guarantees.proofs.Answers as Answers
use Rattle.guarantees.proofs.Answers.{legal_seated}
use Rattle.guarantees.proofs.Counting.{count_after}
use Rattle.guarantees.proofs.Effects.{effect_holds}

-- two states of the automaton with the same counts, queues, slots and values are one
pub same_global : (g h : Global ℕ) → ((b : Act) → g.count b ≡ h.count b) → ((p q : ℕ) → g.queue p q ≡ h.queue p q) → ((p q i : ℕ) → g.slot p q i ≡ h.slot p q i) → ((p : ℕ) → g.value p ≡ h.value p) → g ≡ h
same_global g h counts queues slots values =
    λ i. record { count = λ b. counts b i; queue = λ p q. queues p q i; slot = λ p q j. slots p q j i; value = λ p. values p i }

-- what 0 says: none of 13 to 16, and room in the queue
taken_allowed : (net : Net ℕ) (g : Global ℕ) (a : Act) → answer net g a ≡ 0 → Allowed net g a × (room g a ≡ true)
unfolding must if_b
taken_allowed net g a e =
    let (allowed, space) = answer_allowed net g a 0 e (λ d. omega arith) (λ d. omega arith) (λ d. omega arith) (λ d. omega arith) in
    (allowed, at (room g a) space)
  where
    at : (t : Bool) → must t 18 0 ≡ 0 → t ≡ true
    at true _ = refl
    at false z = absurd (omega arith)

module _ (net : Network) (v : valid_network net ≡ true) (s : State) (valid : valid_state net s ≡ true) where
  pub answer_is : (a : Act) → answer_of net s (kind_of a) (body_of a).p (body_of a).q ≡ answer (net_of net) (read net s) a
  answer_is = Answers.answer_is net v s (valid_state_clauses net v s valid)

  pub after_is : Sized s → (a : Act) → answer (net_of net) (read net s) a ≡ 0 → read net (after_of net s (kind_of a) (body_of a).p (body_of a).q) ≡ after (net_of net) (read net s) a
  unfolding read after known net_of
  after_is z a e =
      let (allowed, space) = taken_allowed (net_of net) (read net s) a e in
      let c = valid_state_clauses net v s valid in
      let is = legal_seated net v a (both_left (ltb (body_of a).p net.nodes) _ allowed.is_known) allowed.is_legal in
      let held = effect_holds net v s c z (doing a) is allowed space in
      same_global _ _ (count_after net v s z a is) held.queue held.slot held.value
