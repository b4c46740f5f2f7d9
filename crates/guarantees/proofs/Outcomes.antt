-- The code's entry points come to what `specs/Outcome.antt` says, for every network, state and byte string: an action by its method, one action from
-- bytes, a list of actions. A list goes by turns, and there are enough of them, since a record has two bytes or more.
-- Assumes nothing.
use Prim.Native.Nat.{ℕ, zero, suc, ◌+◌, ◌<◌, ◌≤◌}
use native.Mathlib.Omega.{arith}
use mathlib.Core.Path.{◌≡◌, refl, sym, ◌∙◌, ap, subst}
use mathlib.Core.Bool.{Bool, true, false}
use mathlib.Core.List.{List, [], ◌∷◌}
use lib.ListN.{length}
use Rattle.laws.specs.Choice.{if_b, if_eq}
use Rattle.laws.proofs.Choice.{if_b_yes, if_b_no, if_eq_yes, if_eq_no, lt_elim, eq_elim, both_left, both_right, both_yes, true_not_false}
use Rattle.network.specs.declared.Network.{Network}
use Rattle.network.specs.Valid.{valid_network}
use Rattle.synchronizer.specs.declared.State.{State}
use Rattle.synchronizer.specs.declared.Done.{Done}
use Rattle.synchronizer.specs.declared.Acted.{Acted}
use Rattle.synchronizer.specs.declared.Ran.{Ran}
use Rattle.synchronizer.specs.Wires.{wires_of}
use Rattle.synchronizer.specs.Answer.{answer_of}
use Rattle.synchronizer.specs.After.{after_of}
use Rattle.synchronizer.specs.Valid.{valid_state, Sized}
use Rattle.synchronizer.specs.Entry.{done, acted, ran, in_range, done_in, done_of, acted_as, record_in, act_in, act_of, list_from, list_of}
use Rattle.network.proofs.Valid.{valid_clauses, clauses_valid}
use Rattle.synchronizer.proofs.Keeps.{taken_keeps}
use Rattle.automaton.specs.Actions.{Act, body_of}
use Rattle.automaton.specs.Answer.{answer}
use Rattle.automaton.specs.Run.{after, step, run}
use Rattle.guarantees.specs.Kinds.{kind_of}
use Rattle.guarantees.specs.Reading.{net_of, read}
use Rattle.guarantees.specs.Outcome as Outcome
use Rattle.guarantees.specs.Records.{Names, UnknownAt, CutAt}
use Rattle.guarantees.specs.Outcome.{Within, Judged, MethodOutcome, ActOutcome, Taken, Stopped, Listed, ListOutcome}
use Rattle.guarantees.proofs.Bytes.{names_inside}
use Rattle.guarantees.proofs.Fits.{valid_fits, fits_valid}
use Rattle.guarantees.proofs.Records as Records
use Rattle.guarantees.proofs.Records.{Found, found}
use Rattle.guarantees.proofs.After.{answer_is, after_is}

-- what 17 lets pass
pub in_range_lem : (net : Network) (s : State) → in_range net s ≡ true → (valid_network net ≡ true) × (valid_state net s ≡ true)
unfolding in_range
in_range_lem net s e = (both_left _ _ e, both_right (valid_network net) _ e)

-- the clauses of 17 say the same
module _ (net : Network) (s : State) where
  pub within_of : in_range net s ≡ true → Within net s
  within_of e =
      let (v, valid) = in_range_lem net s e in
      record { network = valid_clauses net v; state = valid_fits net v s valid }

  pub in_of : Within net s → in_range net s ≡ true
  unfolding in_range
  in_of w =
      let v = clauses_valid net w.network in
      both_yes (valid_network net) (valid_state net s) v (fits_valid net v s w.state)

  pub not_within : in_range net s ≡ false → Within net s → ⊥
  not_within e w = true_not_false (in_range net s) (in_of w) e

  pub out_of : (Within net s → ⊥) → in_range net s ≡ false
  out_of none = by (in_range net s) refl
    where
      by : (t : Bool) → in_range net s ≡ t → in_range net s ≡ false
      by true e = absurd (none (within_of e))
      by false e = e

-- an action's answer and state, with the bytes that it read
pub acted_as_lem : (d : Done) (width : ℕ) → acted_as d width ≡ acted d.answer (if_eq d.answer 0 width 0) d.state
unfolding acted_as
acted_as_lem d width =
    eq_elim (λ (r : Acted). r ≡ acted d.answer (if_eq d.answer 0 width 0) d.state) d.answer 0 (acted 0 width d.state) (acted d.answer 0 d.state)
    (λ e i. acted (sym e i) (sym (if_eq_yes d.answer 0 width 0 e) i) d.state)
    (λ o i. acted d.answer (sym (if_eq_no d.answer 0 width 0 o) i) d.state)

-- ---- one action in a state within range

module _ (net : Network) (v : valid_network net ≡ true) (s : State) (valid : valid_state net s ≡ true) (z : Sized s) where
  pub judged_in : (a : Act) → Judged net s a (done_in (wires_of net) s (kind_of a) (body_of a).p (body_of a).q).answer (done_in (wires_of net) s (kind_of a) (body_of a).p (body_of a).q).state
  unfolding done_in step
  judged_in a =
      eq_elim (λ (r : Done). Judged net s a r.answer r.state) (answer_of net s (kind_of a) (body_of a).p (body_of a).q) 0 (done 0 (after_of net s (kind_of a) (body_of a).p (body_of a).q)) (done (answer_of net s (kind_of a) (body_of a).p (body_of a).q) s)
      (λ e.
      let zero = sym (answer_is net v s valid a) ∙ e in
      let kept = taken_keeps net v s (kind_of a) (body_of a).p (body_of a).q valid z e in
      record {
        number = sym zero;
        follows = after_is net v s valid z a zero ∙ sym (if_eq_yes (answer (net_of net) (read net s) a) 0 _ _ zero);
        valid = valid_fits net v _ kept.0;
        sized = kept.1;
      })
      (λ o. record {
        number = answer_is net v s valid a;
        follows = sym (if_eq_no (answer (net_of net) (read net s) a) 0 _ _ (λ e. o (answer_is net v s valid a ∙ e)));
        valid = valid_fits net v s valid;
        sized = z;
      })

  -- ---- one turn: the record at a place of the bytes

  data Turn (bytes : List ℕ) (at : ℕ) (r : Acted) : Type 0 where
    unknown : UnknownAt bytes at → r ≡ acted 11 0 s → Turn bytes at r
    cut : CutAt bytes at → r ≡ acted 12 0 s → Turn bytes at r
    judged : (a : Act) (width : ℕ) → Names bytes at a width → Judged net s a r.answer r.state → r.place ≡ if_eq r.answer 0 width 0 → Turn bytes at r

  turn : (bytes : List ℕ) (at : ℕ) → Turn bytes at (act_in (wires_of net) s bytes at)
  unfolding act_in record_in
  turn bytes at = by (found bytes at)
    where
      by : Found bytes at → Turn bytes at (act_in (wires_of net) s bytes at)
      by (Records.unknown u e) = unknown u (ap (record_in (wires_of net) s) e)
      by (Records.cut c e) = cut c (ap (record_in (wires_of net) s) e)
      by (Records.action a width h e) =
          let d = done_in (wires_of net) s (kind_of a) (body_of a).p (body_of a).q in
          let is = ap (record_in (wires_of net) s) e ∙ acted_as_lem d width in
          judged a width h (subst (λ (r : Acted). Judged net s a r.answer r.state) (sym is) (judged_in a)) (ap (λ (r : Acted). r.place) is ∙ ap (λ (r : Acted). if_eq r.answer 0 width 0) (sym is))

-- ---- a list of actions

-- what a list comes to from a place on, where so many were taken before
record From (net : Network) (s : State) (bytes : List ℕ) (at before : ℕ) (r : Ran) : Type 0 where
  actions : List Act
  taken : Taken (net_of net) (read net s) bytes at actions r.place
  counted : r.taken ≡ before + length actions
  follows : read net r.state ≡ run (net_of net) (read net s) actions
  stopped : Stopped (net_of net) (read net r.state) bytes r.place r.answer
  valid : valid_state net r.state ≡ true
  sized : Sized r.state

module _ (net : Network) (v : valid_network net ≡ true) (bytes : List ℕ) where
  -- where it stops at once
  stops : (s : State) → valid_state net s ≡ true → Sized s → (at before n : ℕ) → Stopped (net_of net) (read net s) bytes at n → From net s bytes at before (ran n at before s)
  unfolding run
  stops s valid z at before n why =
      record { actions = []; taken = refl; counted = omega arith; follows = refl; stopped = why; valid = valid; sized = z }

  -- where it goes on after one action
  goes : (s s' : State) (a : Act) (at before width : ℕ) (r : Ran) → Names bytes at a width → answer (net_of net) (read net s) a ≡ 0 → Judged net s a 0 s' → From net s' bytes (at + width) (before + 1) r → From net s bytes at before r
  unfolding run step
  goes s s' a at before width r names e j rest =
      let same : read net s' ≡ after (net_of net) (read net s) a = j.follows ∙ if_eq_yes (answer (net_of net) (read net s) a) 0 _ _ e in
      record {
        actions = a ∷ rest.actions;
        taken = (width, names, e, subst (λ g. Taken (net_of net) g bytes (at + width) rest.actions r.place) same rest.taken);
        counted = omega (arith, rest.counted);
        follows = rest.follows ∙ ap (λ g. run (net_of net) g rest.actions) j.follows;
        stopped = rest.stopped;
        valid = rest.valid;
        sized = rest.sized;
      }

  -- one turn of the list, where the rest of it is known
  module _ (s : State) (valid : valid_state net s ≡ true) (z : Sized s) (at before : ℕ) (inside : at < length bytes) (r : Acted) (rest : Ran) where
    on :
        Turn net v s valid z bytes at r
        → ((width : ℕ) → r.place ≡ width → 0 < width → at + width ≤ length bytes → valid_state net r.state ≡ true → Sized r.state → From net r.state bytes (at + width) (before + 1) rest)
        → From net s bytes at before (if_eq r.answer 0 rest (ran r.answer at before s))
    on (unknown u e) later =
        let n : r.answer ≡ 11 = ap (λ (x : Acted). x.answer) e in
        eq_elim (From net s bytes at before) r.answer 0 rest _ (λ o. absurd (omega arith)) (λ _. stops s valid z at before r.answer (Outcome.unknown u n))
    on (cut c e) later =
        let n : r.answer ≡ 12 = ap (λ (x : Acted). x.answer) e in
        eq_elim (From net s bytes at before) r.answer 0 rest _ (λ o. absurd (omega arith)) (λ _. stops s valid z at before r.answer (Outcome.cut inside c n))
    on (judged a width names j place) later =
        eq_elim (From net s bytes at before) r.answer 0 rest _
        (λ e. goes s r.state a at before width rest names (sym j.number ∙ e) (subst (λ n. Judged net s a n r.state) e j) (later width (place ∙ if_eq_yes r.answer 0 width 0 e) (omega (arith, (names_inside names).0)) (names_inside names).1 (fits_valid net v r.state j.valid) j.sized))
        (λ o. stops s valid z at before r.answer (Outcome.refused a width names j.number (omega arith)))

  from : (turns : ℕ) (s : State) → valid_state net s ≡ true → Sized s → (at before : ℕ) → at ≤ length bytes → length bytes < turns + at → From net s bytes at before (list_from turns (wires_of net) s bytes at before)
  unfolding list_from
  from zero s valid z at before h enough = absurd (omega arith)
  from (suc turns) s valid z at before h enough =
      let r = act_in (wires_of net) s bytes at in
      let rest = list_from turns (wires_of net) r.state bytes (at + r.place) (before + 1) in
      lt_elim (From net s bytes at before) at (length bytes) _ _
      (λ inside. on s valid z at before inside r rest (turn net v s valid z bytes at) (λ width is some fits ok sized. subst (λ w. From net r.state bytes (at + w) (before + 1) rest) is (from turns r.state ok sized (at + r.place) (before + 1) (omega arith) (omega arith))))
      (λ past. stops s valid z at before 0 (Outcome.at_end (omega arith) refl))

-- ---- the entry points

module _ (net : Network) (s : State) (z : Sized s) where
  pub method_outcome : (a : Act) → MethodOutcome net s a (done_of net s (kind_of a) (body_of a).p (body_of a).q)
  unfolding done_of
  method_outcome a = by (in_range net s) refl
    where
      by : (t : Bool) → in_range net s ≡ t → MethodOutcome net s a (if_b (in_range net s) (done_in (wires_of net) s (kind_of a) (body_of a).p (body_of a).q) (done 17 s))
      by true e =
          let (v, valid) = in_range_lem net s e in
          rw (if_b_yes (in_range net s) (done_in (wires_of net) s (kind_of a) (body_of a).p (body_of a).q) (done 17 s) e) (Outcome.MethodOutcome.judged (within_of net s e) (judged_in net v s valid z a))
      by false e = Outcome.MethodOutcome.out_of_range (not_within net s e) (if_b_no (in_range net s) _ (done 17 s) e)

  pub act_outcome : (bytes : List ℕ) → ActOutcome net s bytes (act_of net s bytes)
  unfolding act_of
  act_outcome bytes = by (in_range net s) refl
    where
      at_first : (r : Acted) (e : in_range net s ≡ true) → Turn net (in_range_lem net s e).0 s (in_range_lem net s e).1 z bytes 0 r → ActOutcome net s bytes r
      at_first r e (unknown u is) = Outcome.ActOutcome.unknown (within_of net s e) u is
      at_first r e (cut c is) = Outcome.ActOutcome.cut (within_of net s e) c is
      at_first r e (judged a width h j place) = Outcome.ActOutcome.judged (within_of net s e) a width h j place

      by : (t : Bool) → in_range net s ≡ t → ActOutcome net s bytes (if_b (in_range net s) (act_in (wires_of net) s bytes 0) (acted 17 0 s))
      by true e =
          rw (if_b_yes (in_range net s) (act_in (wires_of net) s bytes 0) (acted 17 0 s) e)
          (at_first (act_in (wires_of net) s bytes 0) e (turn net (in_range_lem net s e).0 s (in_range_lem net s e).1 z bytes 0))
      by false e = Outcome.ActOutcome.out_of_range (not_within net s e) (if_b_no (in_range net s) _ (acted 17 0 s) e)

  pub list_outcome : (bytes : List ℕ) → ListOutcome net s bytes (list_of net s bytes)
  unfolding list_of
  list_outcome bytes = by (in_range net s) refl
    where
      whole : valid_network net ≡ true → (r : Ran) → From net s bytes 0 0 r → Listed net s bytes r
      whole v r f =
          record {
            actions = f.actions;
            taken = f.taken;
            counted = omega (arith, f.counted);
            follows = f.follows;
            stopped = f.stopped;
            valid = valid_fits net v r.state f.valid;
            sized = f.sized;
          }

      by : (t : Bool) → in_range net s ≡ t → ListOutcome net s bytes (if_b (in_range net s) (list_from (suc (length bytes)) (wires_of net) s bytes 0 0) (ran 17 0 0 s))
      by true e =
          rw (if_b_yes (in_range net s) (list_from (suc (length bytes)) (wires_of net) s bytes 0 0) (ran 17 0 0 s) e)
          (Outcome.ListOutcome.listed (within_of net s e) (whole (in_range_lem net s e).0 _ (from net (in_range_lem net s e).0 bytes (suc (length bytes)) s (in_range_lem net s e).1 z 0 0 (omega arith) (omega arith))))
      by false e = Outcome.ListOutcome.out_of_range (not_within net s e) (if_b_no (in_range net s) _ (ran 17 0 0 s) e)
