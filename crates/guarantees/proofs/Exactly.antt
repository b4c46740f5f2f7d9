-- Which answer a single action from bytes gets, number by number, each exactly under its condition: 0 exactly if the bytes begin with a record that
-- names an action which the automaton takes, and then the state that follows is read as the automaton's.
-- Assumes nothing.
use Prim.Native.Nat.{ℕ, ◌<◌}
use native.Mathlib.Omega.{arith}
use mathlib.Core.Path.{◌≡◌, refl, sym, ◌∙◌, ap}
use mathlib.Core.Bool.{Bool, true, false, not}
use mathlib.Core.List.{List}
use mathlib.Core.Logic.{◌↔◌}
use lib.Dec.{ltb, eqb}
use borrow.Author.Tests.{eqb-false}
use Rattle.laws.specs.Choice.{if_b, if_eq, both}
use Rattle.laws.proofs.Choice.{b_elim, if_eq_yes, if_eq_no, true_not_false}
use Rattle.network.specs.declared.Network.{Network}
use Rattle.synchronizer.specs.declared.State.{State}
use Rattle.synchronizer.specs.declared.Acted.{Acted}
use Rattle.synchronizer.specs.Wires.{wires_of}
use Rattle.synchronizer.specs.Valid.{Sized}
use Rattle.synchronizer.specs.Entry.{acted, in_range, done_in, act_of}
use Rattle.automaton.specs.Actions.{Act, body_of}
use Rattle.automaton.specs.Network.{Net}
use Rattle.automaton.specs.Global.{Global}
use Rattle.automaton.specs.Answer.{must, known, legal, in_time, enabled, room, answer}
use Rattle.automaton.specs.Run.{after, step}
use Rattle.guarantees.specs.Kinds.{kind_of}
use Rattle.guarantees.specs.Reading.{net_of, read}
use Rattle.guarantees.specs.Outcome as Outcome
use Rattle.guarantees.specs.Records.{Names, UnknownAt, CutAt}
use Rattle.guarantees.specs.Outcome.{ActOutcome}
use Rattle.guarantees.proofs.Outcomes.{in_range_lem, within_of, in_of, not_within, out_of, judged_in, act_outcome}
use Rattle.guarantees.proofs.Only.{act_is, refused_same}

-- the automaton's answers: 0, 13, 14, 15, 16, 18
pub answer_elim : (P : ℕ → Type 0) (net : Net ℕ) (g : Global ℕ) (a : Act) → P 0 → P 13 → P 14 → P 15 → P 16 → P 18 → P (answer net g a)
unfolding answer must
answer_elim P net g a p0 p13 p14 p15 p16 p18 =
    b_elim P (known net a) _ 13 (λ _. b_elim P (legal net a) _ 14 (λ _. b_elim P (in_time net g a) _ 15 (λ _. b_elim P (enabled net g a) _ 16 (λ _. b_elim P (room g a) 0 18 (λ _. p0) (λ _. p18)) (λ _. p16)) (λ _. p15)) (λ _. p14)) (λ _. p13)

-- as a test: the number is not a record's, 11 or 12, and not 17
unfoldable pub of_action : ℕ → Bool
of_action n = if_eq n 0 true (both (ltb 12 n) (both (ltb n 19) (not (eqb n 17))))

answer_of_action : (net : Net ℕ) (g : Global ℕ) (a : Act) → of_action (answer net g a) ≡ true
unfolding of_action if_eq both if_b
answer_of_action net g a = answer_elim (λ n. of_action n ≡ true) net g a refl refl refl refl refl refl

no_action : (net : Net ℕ) (g : Global ℕ) (a : Act) (n m : ℕ) → n ≡ answer net g a → n ≡ m → of_action m ≡ false → ⊥
no_action net g a n m e is o = true_not_false (of_action m) (ap of_action (sym is ∙ e) ∙ answer_of_action net g a) o

module _ (net : Network) (s : State) (z : Sized s) (bytes : List ℕ) where
  abbrev r : Acted
  r = act_of net s bytes

  -- a result that the outcome allows is the code's, and so is its answer
  number : (x : Acted) (n : ℕ) → x.answer ≡ n → ActOutcome net s bytes x → r.answer ≡ n
  number x n e o = sym (ap (λ (y : Acted). y.answer) (act_is net s z bytes x o)) ∙ e

  -- another answer than the one given
  not_given : (n m : ℕ) (x : Acted) → r ≡ x → x.answer ≡ m → r.answer ≡ n → eqb m n ≡ false → ⊥
  not_given n m x is given e o = eqb-false m n o (sym given ∙ ap (λ (y : Acted). y.answer) (sym is) ∙ e)

  pub answer_17 : (r.answer ≡ 17) ↔ (in_range net s ≡ false)
  unfolding of_action if_eq both if_b
  answer_17 = (λ e. to e (act_outcome net s z bytes), λ out. number (acted 17 0 s) 17 refl (Outcome.ActOutcome.out_of_range (not_within net s out) refl))
    where
      to : r.answer ≡ 17 → ActOutcome net s bytes r → in_range net s ≡ false
      to e (Outcome.ActOutcome.out_of_range out _) = out_of net s out
      to e (Outcome.ActOutcome.unknown _ _ is) = absurd (not_given 17 11 (acted 11 0 s) is refl e refl)
      to e (Outcome.ActOutcome.cut _ _ is) = absurd (not_given 17 12 (acted 12 0 s) is refl e refl)
      to e (Outcome.ActOutcome.judged _ a _ _ j _) = absurd (no_action (net_of net) (read net s) a r.answer 17 j.number e refl)

  -- ---- within range

  module _ (within : in_range net s ≡ true) where
    pub answer_11 : (r.answer ≡ 11) ↔ UnknownAt bytes 0
    unfolding of_action if_eq both if_b
    answer_11 = (λ e. to e (act_outcome net s z bytes), λ u. number (acted 11 0 s) 11 refl (Outcome.ActOutcome.unknown (within_of net s within) u refl))
      where
        to : r.answer ≡ 11 → ActOutcome net s bytes r → UnknownAt bytes 0
        to e (Outcome.ActOutcome.out_of_range out _) = absurd (out (within_of net s within))
        to e (Outcome.ActOutcome.unknown _ u _) = u
        to e (Outcome.ActOutcome.cut _ _ is) = absurd (not_given 11 12 (acted 12 0 s) is refl e refl)
        to e (Outcome.ActOutcome.judged _ a _ _ j _) = absurd (no_action (net_of net) (read net s) a r.answer 11 j.number e refl)

    pub answer_12 : (r.answer ≡ 12) ↔ CutAt bytes 0
    unfolding of_action if_eq both if_b
    answer_12 = (λ e. to e (act_outcome net s z bytes), λ c. number (acted 12 0 s) 12 refl (Outcome.ActOutcome.cut (within_of net s within) c refl))
      where
        to : r.answer ≡ 12 → ActOutcome net s bytes r → CutAt bytes 0
        to e (Outcome.ActOutcome.out_of_range out _) = absurd (out (within_of net s within))
        to e (Outcome.ActOutcome.unknown _ _ is) = absurd (not_given 12 11 (acted 11 0 s) is refl e refl)
        to e (Outcome.ActOutcome.cut _ c _) = c
        to e (Outcome.ActOutcome.judged _ a _ _ j _) = absurd (no_action (net_of net) (read net s) a r.answer 12 j.number e refl)

    -- 0, 13, 14, 15, 16 and 18, each exactly where the automaton gives it to the action that the bytes name
    pub answer_named : (n : ℕ) → of_action n ≡ true → (r.answer ≡ n) ↔ ((a : Act) × (width : ℕ) × Names bytes 0 a width × (answer (net_of net) (read net s) a ≡ n))
    unfolding of_action if_eq both if_b
    answer_named n of = (λ e. to e (act_outcome net s z bytes), from)
      where
        other : (m : ℕ) → r.answer ≡ m → r.answer ≡ n → of_action m ≡ false → ⊥
        other m given e o = true_not_false (of_action n) of (ap of_action (sym e ∙ given) ∙ o)

        to : r.answer ≡ n → ActOutcome net s bytes r → (a : Act) × (width : ℕ) × Names bytes 0 a width × (answer (net_of net) (read net s) a ≡ n)
        to e (Outcome.ActOutcome.out_of_range out _) = absurd (out (within_of net s within))
        to e (Outcome.ActOutcome.unknown _ _ is) = absurd (other 11 (ap (λ (y : Acted). y.answer) is) e refl)
        to e (Outcome.ActOutcome.cut _ _ is) = absurd (other 12 (ap (λ (y : Acted). y.answer) is) e refl)
        to e (Outcome.ActOutcome.judged _ a width h j _) = (a, width, h, sym j.number ∙ e)

        from : (a : Act) × (width : ℕ) × Names bytes 0 a width × (answer (net_of net) (read net s) a ≡ n) → r.answer ≡ n
        from (a, width, h, is) =
            let (v, valid) = in_range_lem net s within in
            let d = done_in (wires_of net) s (kind_of a) (body_of a).p (body_of a).q in
            let j = judged_in net v s valid z a in
            number (acted d.answer (if_eq d.answer 0 width 0) d.state) n (j.number ∙ is) (Outcome.ActOutcome.judged (within_of net s within) a width h j refl)

    -- a taken action: which it is, the bytes read, and the state that follows
    pub taken : r.answer ≡ 0 → (a : Act) × (width : ℕ) × Names bytes 0 a width × (answer (net_of net) (read net s) a ≡ 0) × (r.place ≡ width) × (read net r.state ≡ after (net_of net) (read net s) a)
    unfolding step
    taken e = to (act_outcome net s z bytes)
      where
        to : ActOutcome net s bytes r → (a : Act) × (width : ℕ) × Names bytes 0 a width × (answer (net_of net) (read net s) a ≡ 0) × (r.place ≡ width) × (read net r.state ≡ after (net_of net) (read net s) a)
        to (Outcome.ActOutcome.out_of_range out _) = absurd (out (within_of net s within))
        to (Outcome.ActOutcome.unknown _ _ is) = absurd (not_given 0 11 (acted 11 0 s) is refl e refl)
        to (Outcome.ActOutcome.cut _ _ is) = absurd (not_given 0 12 (acted 12 0 s) is refl e refl)
        to (Outcome.ActOutcome.judged _ a width h j place) =
            let zero = sym j.number ∙ e in
            (a, width, h, zero, place ∙ if_eq_yes r.answer 0 width 0 e, j.follows ∙ if_eq_yes (answer (net_of net) (read net s) a) 0 _ _ zero)

  -- a refused action: place 0, and "the state .. as it came"
  pub refused : 0 < r.answer → (r.place ≡ 0) × (r.state ≡ s)
  refused h = to (act_outcome net s z bytes)
    where
      to : ActOutcome net s bytes r → (r.place ≡ 0) × (r.state ≡ s)
      to (Outcome.ActOutcome.out_of_range _ is) = (ap (λ (y : Acted). y.place) is, ap (λ (y : Acted). y.state) is)
      to (Outcome.ActOutcome.unknown _ _ is) = (ap (λ (y : Acted). y.place) is, ap (λ (y : Acted). y.state) is)
      to (Outcome.ActOutcome.cut _ _ is) = (ap (λ (y : Acted). y.place) is, ap (λ (y : Acted). y.state) is)
      to (Outcome.ActOutcome.judged within a width _ j place) =
          let (v, valid) = in_range_lem net s (in_of net s within) in
          (place ∙ if_eq_no r.answer 0 width 0 (λ e. omega arith), refused_same net v s r.state a r.answer valid z j h)
