-- And to nothing else: a result that `specs/Outcome.antt` allows is the code's. So what is said there in the automaton's words leaves one answer, one
-- place, one number taken and one state, and the definitions over arrays need not be believed.
-- Assumes nothing.
use Prim.Native.Nat.{ℕ, zero, suc, ◌+◌, ◌<◌, ◌≤◌}
use native.Mathlib.Omega.{arith}
use mathlib.Core.Path.{◌≡◌, sym, ◌∙◌, ap, subst}
use mathlib.Core.Bool.{true}
use mathlib.Core.List.{List, [], ◌∷◌}
use lib.ListN.{length}
use Rattle.laws.specs.Choice.{if_eq}
use Rattle.laws.proofs.Choice.{if_b_yes, if_b_no, if_lt_yes, if_lt_no, if_eq_yes, if_eq_no}
use Rattle.network.specs.declared.Network.{Network}
use Rattle.network.specs.Valid.{valid_network}
use Rattle.synchronizer.specs.declared.State.{State}
use Rattle.synchronizer.specs.declared.Done.{Done}
use Rattle.synchronizer.specs.declared.Acted.{Acted}
use Rattle.synchronizer.specs.declared.Ran.{Ran}
use Rattle.synchronizer.specs.Wires.{wires_of}
use Rattle.synchronizer.specs.Valid.{valid_state, Sized}
use Rattle.synchronizer.specs.Entry.{done, acted, ran, in_range, done_in, done_of, record_in, act_in, act_of, list_from, list_of}
use Rattle.automaton.specs.Actions.{Act, body_of}
use Rattle.automaton.specs.Global.{Global}
use Rattle.automaton.specs.Answer.{answer}
use Rattle.automaton.specs.Run.{after, step, run}
use Rattle.guarantees.specs.Kinds.{kind_of}
use Rattle.guarantees.specs.Reading.{net_of, read}
use Rattle.guarantees.specs.Outcome as Outcome
use Rattle.guarantees.specs.Records.{Names, UnknownAt, CutAt}
use Rattle.guarantees.specs.Outcome.{Judged, MethodOutcome, ActOutcome, Taken, Stopped, at_end, refused, ListOutcome}
use Rattle.guarantees.proofs.Bytes.{names_inside}
use Rattle.guarantees.proofs.Records.{unknown_read, cut_read, names_read}
use Rattle.guarantees.proofs.Whole.{one_reading}
use Rattle.guarantees.proofs.Fits.{valid_fits, fits_valid}
use Rattle.guarantees.proofs.Outcomes.{in_range_lem, in_of, out_of, judged_in, acted_as_lem}

module _ (net : Network) (v : valid_network net ≡ true) where
  -- an action has one answer, and one state follows
  pub judged_once : (s s' s'' : State) (a : Act) (n m : ℕ) → Judged net s a n s' → Judged net s a m s'' → (n ≡ m) × (s' ≡ s'')
  judged_once s s' s'' a n m j k =
      (j.number ∙ sym k.number, one_reading net v s' s'' (fits_valid net v s' j.valid, j.sized) (fits_valid net v s'' k.valid, k.sized) (j.follows ∙ sym k.follows))

  -- "a refused action hands the state back as it came"
  pub refused_same : (s s' : State) (a : Act) (n : ℕ) → valid_state net s ≡ true → Sized s → Judged net s a n s' → 0 < n → s' ≡ s
  unfolding step
  refused_same s s' a n valid z j h =
      one_reading net v s' s (fits_valid net v s' j.valid, j.sized) (valid, z)
      (j.follows ∙ if_eq_no (answer (net_of net) (read net s) a) 0 _ _ (λ e. omega (arith, j.number)))

  -- ---- one turn

  module _ (s : State) (valid : valid_state net s ≡ true) (z : Sized s) (bytes : List ℕ) (at : ℕ) where
    turn_unknown : UnknownAt bytes at → act_in (wires_of net) s bytes at ≡ acted 11 0 s
    unfolding act_in record_in
    turn_unknown u = ap (record_in (wires_of net) s) (unknown_read bytes at u)

    turn_cut : CutAt bytes at → act_in (wires_of net) s bytes at ≡ acted 12 0 s
    unfolding act_in record_in
    turn_cut c = ap (record_in (wires_of net) s) (cut_read bytes at c)

    turn_named : (a : Act) (width n : ℕ) (s' : State) → Names bytes at a width → Judged net s a n s' → act_in (wires_of net) s bytes at ≡ acted n (if_eq n 0 width 0) s'
    unfolding act_in record_in
    turn_named a width n s' h j =
        let d = done_in (wires_of net) s (kind_of a) (body_of a).p (body_of a).q in
        let (same_number, same-state) = judged_once s d.state s' a d.answer n (judged_in net v s valid z a) j in
        ap (record_in (wires_of net) s) (names_read bytes at a width h) ∙ acted_as_lem d width ∙ (λ i. acted (same_number i) (if_eq (same_number i) 0 width 0) (same-state i))

  -- ---- a list from a place on

  module _ (bytes : List ℕ) where
    -- the records of a list stand in the bytes, and so does what it stops at
    taken_within : (g : Global ℕ) (l : List Act) (at to : ℕ) → Taken (net_of net) g bytes at l to → at ≤ to
    taken_within g [] at to e = omega arith
    taken_within g (a ∷ l) at to (width, h, e, rest) = omega (arith, taken_within (after (net_of net) g a) l (at + width) to rest)

    stopped_within : (g : Global ℕ) (at n : ℕ) → Stopped (net_of net) g bytes at n → at ≤ length bytes
    stopped_within g at n (at_end e _) = omega arith
    stopped_within g at n (Outcome.Stopped.unknown u _) = omega (arith, u.within)
    stopped_within g at n (Outcome.Stopped.cut inside _ _) = omega arith
    stopped_within g at n (refused a width h _ _) = omega (arith, (names_inside h).1)

    -- a list that stops at once
    stop_is : (turns : ℕ) (s : State) → valid_state net s ≡ true → Sized s → (at before n : ℕ) → Stopped (net_of net) (read net s) bytes at n → ran n at before s ≡ list_from (suc turns) (wires_of net) s bytes at before
    unfolding list_from step
    stop_is turns s valid z at before n why = by why
      where
        x : Acted
        x = act_in (wires_of net) s bytes at

        -- a record there that is refused
        at_record : at < length bytes → (place : ℕ) → x ≡ acted n place s → 0 < n → ran n at before s ≡ list_from (suc turns) (wires_of net) s bytes at before
        at_record inside place e some =
            let number : x.answer ≡ n = ap (λ (r : Acted). r.answer) e in
            sym (if_lt_yes at (length bytes) _ (ran 0 at before s) inside ∙ if_eq_no x.answer 0 _ (ran x.answer at before s) (λ o. omega arith) ∙ ap (λ k. ran k at before s) number)

        by : Stopped (net_of net) (read net s) bytes at n → ran n at before s ≡ list_from (suc turns) (wires_of net) s bytes at before
        by (at_end e none) = ap (λ k. ran k at before s) none ∙ sym (if_lt_no at (length bytes) _ (ran 0 at before s) (omega arith))
        by (Outcome.Stopped.unknown u e) =
            at_record u.within 0 (turn_unknown s valid z bytes at u ∙ ap (λ k. acted k 0 s) (sym e)) (omega arith)
        by (Outcome.Stopped.cut inside c e) =
            at_record inside 0 (turn_cut s valid z bytes at c ∙ ap (λ k. acted k 0 s) (sym e)) (omega arith)
        by (refused a width h e some) =
            at_record (omega (arith, (names_inside h).0, (names_inside h).1)) (if_eq n 0 width 0)
            (turn_named s valid z bytes at a width n s h (record { number = e; follows = sym (if_eq_no (answer (net_of net) (read net s) a) 0 _ _ (λ o. omega arith)); valid = valid_fits net v s valid; sized = z }))
            some

    list_from_is :
        (l : List Act) (turns : ℕ) (s : State) → valid_state net s ≡ true → Sized s → (at before : ℕ) (r : Ran) → length bytes < turns + at
        → Taken (net_of net) (read net s) bytes at l r.place → r.taken ≡ before + length l → read net r.state ≡ run (net_of net) (read net s) l
        → Stopped (net_of net) (read net r.state) bytes r.place r.answer → valid_state net r.state ≡ true → Sized r.state
        → r ≡ list_from turns (wires_of net) s bytes at before
    unfolding list_from run step
    list_from_is l zero s valid z at before r enough taken counted follows stopped ok sized =
        absurd (omega (arith, taken_within (read net s) l at r.place taken, stopped_within (read net r.state) r.place r.answer stopped))
    list_from_is [] (suc turns) s valid z at before r enough taken counted follows stopped ok sized =
        let state : r.state ≡ s = one_reading net v r.state s (ok, sized) (valid, z) follows in
        let number : r.taken ≡ before = omega arith in
        (λ i. ran r.answer (sym taken i) (number i) (state i))
        ∙ stop_is turns s valid z at before r.answer (subst (λ (w : ℕ × State). Stopped (net_of net) (read net w.1) bytes w.0 r.answer) (λ i. (sym taken i, state i)) stopped)
    list_from_is (a ∷ l) (suc turns) s valid z at before r enough (width, h, e, rest) counted follows stopped ok sized =
        let d = done_in (wires_of net) s (kind_of a) (body_of a).p (body_of a).q in
        let j = judged_in net v s valid z a in
        let x = act_in (wires_of net) s bytes at in
        let is : x ≡ acted d.answer (if_eq d.answer 0 width 0) d.state = turn_named s valid z bytes at a width d.answer d.state h j in
        let none : d.answer ≡ 0 = j.number ∙ e in
        let place : x.place ≡ width = ap (λ (y : Acted). y.place) is ∙ if_eq_yes d.answer 0 width 0 none in
        let state : x.state ≡ d.state = ap (λ (y : Acted). y.state) is in
        let same : read net d.state ≡ after (net_of net) (read net s) a = j.follows ∙ if_eq_yes (answer (net_of net) (read net s) a) 0 _ _ e in
        list_from_is l turns d.state (fits_valid net v d.state j.valid) j.sized (at + width) (before + 1) r (omega (arith, (names_inside h).0)) (subst (λ g. Taken (net_of net) g bytes (at + width) l r.place) (sym same) rest) (omega arith) (follows ∙ ap (λ g. run (net_of net) g l) (sym j.follows)) stopped ok sized
        ∙ sym (if_lt_yes at (length bytes) _ (ran 0 at before s) (omega (arith, (names_inside h).0, (names_inside h).1)) ∙ if_eq_yes x.answer 0 _ (ran x.answer at before s) (ap (λ (y : Acted). y.answer) is ∙ none) ∙ (λ i. list_from turns (wires_of net) (state i) bytes (at + place i) (before + 1)))

-- ---- the entry points

module _ (net : Network) (s : State) (z : Sized s) where
  pub method_is : (a : Act) (r : Done) → MethodOutcome net s a r → r ≡ done_of net s (kind_of a) (body_of a).p (body_of a).q
  unfolding done_of
  method_is a r (Outcome.MethodOutcome.out_of_range e is) = is ∙ sym (if_b_no (in_range net s) _ (done 17 s) (out_of net s e))
  method_is a r (Outcome.MethodOutcome.judged e j) =
      let (v, valid) = in_range_lem net s (in_of net s e) in
      let d = done_in (wires_of net) s (kind_of a) (body_of a).p (body_of a).q in
      let (number, state) = judged_once net v s r.state d.state a r.answer d.answer j (judged_in net v s valid z a) in
      (λ i. done (number i) (state i)) ∙ sym (if_b_yes (in_range net s) d (done 17 s) (in_of net s e))

  pub act_is : (bytes : List ℕ) (r : Acted) → ActOutcome net s bytes r → r ≡ act_of net s bytes
  unfolding act_of
  act_is bytes r (Outcome.ActOutcome.out_of_range e is) = is ∙ sym (if_b_no (in_range net s) _ (acted 17 0 s) (out_of net s e))
  act_is bytes r (Outcome.ActOutcome.unknown e u is) =
      let (v, valid) = in_range_lem net s (in_of net s e) in
      is ∙ sym (if_b_yes (in_range net s) _ (acted 17 0 s) (in_of net s e) ∙ turn_unknown net v s valid z bytes 0 u)
  act_is bytes r (Outcome.ActOutcome.cut e c is) =
      let (v, valid) = in_range_lem net s (in_of net s e) in
      is ∙ sym (if_b_yes (in_range net s) _ (acted 17 0 s) (in_of net s e) ∙ turn_cut net v s valid z bytes 0 c)
  act_is bytes r (Outcome.ActOutcome.judged e a width h j place) =
      let (v, valid) = in_range_lem net s (in_of net s e) in
      (λ i. acted r.answer (place i) r.state)
      ∙ sym (if_b_yes (in_range net s) _ (acted 17 0 s) (in_of net s e) ∙ turn_named net v s valid z bytes 0 a width r.answer r.state h j)

  pub list_is : (bytes : List ℕ) (r : Ran) → ListOutcome net s bytes r → r ≡ list_of net s bytes
  unfolding list_of
  list_is bytes r (Outcome.ListOutcome.out_of_range e is) = is ∙ sym (if_b_no (in_range net s) _ (ran 17 0 0 s) (out_of net s e))
  list_is bytes r (Outcome.ListOutcome.listed e l) =
      let (v, valid) = in_range_lem net s (in_of net s e) in
      list_from_is net v bytes l.actions (suc (length bytes)) s valid z 0 0 r (omega arith) l.taken (omega (arith, l.counted)) l.follows l.stopped (fits_valid net v r.state l.valid) l.sized
      ∙ sym (if_b_yes (in_range net s) _ (ran 17 0 0 s) (in_of net s e))
