-- Every state that is reached from the start state, by whatever is handed in, is read as one that the automaton reaches by some list of actions; it is
-- valid, and its arrays have their lengths.
-- Assumes nothing.
use Prim.Native.Nat.{ℕ, ◌<◌}
use native.Mathlib.Omega.{arith}
use mathlib.Core.Path.{◌≡◌, refl, sym, ◌∙◌, ap, subst}
use mathlib.Core.Bool.{true}
use mathlib.Core.List.{List, [], ◌∷◌, ◌++◌}
use lib.ListN.{length}
use borrow.Author.Tests.{lt-ltb}
use Rattle.laws.specs.Choice.{if_b, if_eq}
use Rattle.network.specs.declared.Network.{Network}
use Rattle.network.specs.Valid.{valid_network, Clauses}
use Rattle.network.proofs.Valid.{clauses_valid}
use Rattle.actions.specs.declared.Kind.{Kind}
use Rattle.actions.specs.declared.Place.{Place}
use Rattle.actions.specs.Table.{place_of}
use Rattle.actions.specs.Records.{names_of}
use Rattle.actions.specs.Records.{body_of as length_of}
use Rattle.synchronizer.specs.declared.State.{State}
use Rattle.synchronizer.specs.declared.Done.{Done}
use Rattle.synchronizer.specs.declared.Acted.{Acted}
use Rattle.synchronizer.specs.declared.Ran.{Ran}
use Rattle.synchronizer.specs.Start.{start_of}
use Rattle.synchronizer.specs.Valid.{valid_state, Sized}
use Rattle.synchronizer.specs.Entry.{done_of}
use Rattle.synchronizer.proofs.Keeps.{start_valid}
use Rattle.automaton.specs.Actions.{Act, output, input, body_of}
use Rattle.automaton.specs.Network.{Net}
use Rattle.automaton.specs.Global.{Global, begin}
use Rattle.automaton.specs.Answer.{answer}
use Rattle.automaton.specs.Run.{step, run}
use Rattle.automaton.specs.Accepted.{Accepted}
use Rattle.automaton.proofs.Demand.{no_full_queue}
use Rattle.guarantees.specs.Kinds.{kind_of}
use Rattle.guarantees.specs.Reading.{net_of, names_link, seated, seat_of, read}
use Rattle.guarantees.specs.Outcome as Outcome
use Rattle.guarantees.specs.Outcome.{Judged, MethodOutcome, ActOutcome, Stopped, ListOutcome}
use Rattle.guarantees.specs.Steps.{Step, method, action, list, second_of, state_after, answer_to, state_after_all, started, finished}
use Rattle.guarantees.proofs.Fits.{fits_valid}
use Rattle.guarantees.proofs.Tables.{action_of, place_as, named}
use Rattle.guarantees.proofs.Needs.{count_read}
use Rattle.guarantees.proofs.Outcomes.{method_outcome, act_outcome, list_outcome}
use Rattle.guarantees.proofs.Start.{start_is}

-- ---- a run in two parts

run_append : (net : Net ℕ) (g : Global ℕ) (l m : List Act) → run net g (l ++ m) ≡ run net (run net g l) m
unfolding run
run_append net g [] m = refl
run_append net g (a ∷ l) m = run_append net (step net g a) l m

-- ---- a method's action

-- the numbers that a method takes are those of its action
pub method_is_action : (net : Network) (s : State) (k : Kind) (p q : ℕ) → done_of net s k p (second_of k p q) ≡ done_of net s (kind_of (action_of k p q)) (body_of (action_of k p q)).p (body_of (action_of k p q)).q
unfolding length_of names_of names_link place_as if_b if_eq
method_is_action net s k p q =
    λ i. done_of net s (sym (named k p q).kind i) (sym (ap (λ b. b.p) (named k p q).body) i) ((by (place_of k) ∙ sym (ap (λ b. b.q) (named k p q).body)) i)
  where
    by : (w : Place) → if_eq (names_of w) 1 p q ≡ if_b (names_link (place_as w)) q p
    by Place.Node = refl
    by Place.Link = refl
    by Place.PreferredLink = refl
    by Place.Child = refl
    by Place.Root = refl

module _ (net : Network) where
  -- the automaton reaches what is read of s, by these actions
  pub record Reached (s : State) : Type 0 where
    pub actions : List Act
    pub is : read net s ≡ run (net_of net) (begin (net_of net)) actions
    pub valid : valid_state net s ≡ true
    pub sized : Sized s

  -- by some more actions
  more : (s s' : State) (h : Reached s) (l : List Act) → read net s' ≡ run (net_of net) (read net s) l → valid_state net s' ≡ true → Sized s' → Reached s'
  more s s' h l follows valid sized =
      record {
        actions = h.actions ++ l;
        is = follows ∙ ap (λ g. run (net_of net) g l) h.is ∙ sym (run_append (net_of net) (begin (net_of net)) h.actions l);
        valid = valid;
        sized = sized;
      }

  one_more : (s s' : State) (a : Act) (n : ℕ) → Clauses net → Reached s → Judged net s a n s' → Reached s'
  unfolding run
  one_more s s' a n c h j = more s s' h (a ∷ []) j.follows (fits_valid net (clauses_valid net c) s' j.valid) j.sized

  -- ---- by one step, and by all

  pub by_method : (s : State) (a : Act) (r : Done) → Reached s → MethodOutcome net s a r → Reached r.state
  by_method s a r h (Outcome.MethodOutcome.out_of_range _ is) = subst (λ (d : Done). Reached d.state) (sym is) h
  by_method s a r h (Outcome.MethodOutcome.judged w j) = one_more s r.state a r.answer w.network h j

  pub by_act : (s : State) (bytes : List ℕ) (r : Acted) → Reached s → ActOutcome net s bytes r → Reached r.state
  by_act s bytes r h (Outcome.ActOutcome.out_of_range _ is) = subst (λ (d : Acted). Reached d.state) (sym is) h
  by_act s bytes r h (Outcome.ActOutcome.unknown _ _ is) = subst (λ (d : Acted). Reached d.state) (sym is) h
  by_act s bytes r h (Outcome.ActOutcome.cut _ _ is) = subst (λ (d : Acted). Reached d.state) (sym is) h
  by_act s bytes r h (Outcome.ActOutcome.judged w a width _ j _) = one_more s r.state a r.answer w.network h j

  pub by_list : (s : State) (bytes : List ℕ) (r : Ran) → Reached s → ListOutcome net s bytes r → Reached r.state
  by_list s bytes r h (Outcome.ListOutcome.out_of_range _ is) = subst (λ (d : Ran). Reached d.state) (sym is) h
  by_list s bytes r h (Outcome.ListOutcome.listed w l) = more s r.state h l.actions l.follows (fits_valid net (clauses_valid net w.network) r.state l.valid) l.sized

  pub step_reaches : (s : State) → Reached s → (x : Step) → Reached (state_after net s x)
  unfolding state_after
  step_reaches s h (method k p q) =
      subst (λ (d : Done). Reached d.state) (sym (method_is_action net s k p q))
      (by_method s (action_of k p q) _ h (method_outcome net s h.sized (action_of k p q)))
  step_reaches s h (action bytes) = by_act s bytes _ h (act_outcome net s h.sized bytes)
  step_reaches s h (list bytes) = by_list s bytes _ h (list_outcome net s h.sized bytes)

  all_reach : (steps : List Step) (s : State) → Reached s → Reached (state_after_all net s steps)
  unfolding state_after_all
  all_reach [] s h = h
  all_reach (x ∷ l) s h = all_reach l (state_after net s x) (step_reaches s h x)

  pub all_reached : valid_network net ≡ true → length net.starts ≡ 64 → (steps : List Step) → Reached (state_after_all net (start_of net).state steps)
  unfolding run
  all_reached v long steps =
      let (valid, sized) = start_valid net long v in
      all_reach steps (start_of net).state (record { actions = []; is = start_is net v; valid = valid; sized = sized })

  -- ---- rounds started and finished are read

  pub started_read : valid_network net ≡ true → (s : State) (p : ℕ) → p < net.nodes → started s p ≡ (read net s).count (output p)
  unfolding started read kind_of seated seat_of body_of names_link if_b
  started_read v s p h = sym (count_read net v s (output p) (lt-ltb p net.nodes h))

  pub finished_read : valid_network net ≡ true → (s : State) (p : ℕ) → p < net.nodes → finished s p ≡ (read net s).count (input p)
  unfolding finished read kind_of seated seat_of body_of names_link if_b
  finished_read v s p h = sym (count_read net v s (input p) (lt-ltb p net.nodes h))

  -- ---- 18 is no answer

  module _ (acc : Accepted (net_of net)) where
    pub no_action : (s : State) → Reached s → (a : Act) (n : ℕ) → n ≡ answer (net_of net) (read net s) a → n ≡ 18 → ⊥
    no_action s h a n e is =
        no_full_queue (net_of net) acc h.actions a (ap (λ g. answer (net_of net) g a) (sym h.is) ∙ sym e ∙ is)

    no_method : (s : State) (a : Act) (r : Done) → Reached s → MethodOutcome net s a r → r.answer ≡ 18 → ⊥
    no_method s a r h (Outcome.MethodOutcome.out_of_range _ is) e =
        let n : r.answer ≡ 17 = ap (λ (d : Done). d.answer) is in
        omega arith
    no_method s a r h (Outcome.MethodOutcome.judged _ j) e = no_action s h a r.answer j.number e

    no_act : (s : State) (bytes : List ℕ) (r : Acted) → Reached s → ActOutcome net s bytes r → r.answer ≡ 18 → ⊥
    no_act s bytes r h (Outcome.ActOutcome.out_of_range _ is) e =
        let n : r.answer ≡ 17 = ap (λ (d : Acted). d.answer) is in
        omega arith
    no_act s bytes r h (Outcome.ActOutcome.unknown _ _ is) e =
        let n : r.answer ≡ 11 = ap (λ (d : Acted). d.answer) is in
        omega arith
    no_act s bytes r h (Outcome.ActOutcome.cut _ _ is) e =
        let n : r.answer ≡ 12 = ap (λ (d : Acted). d.answer) is in
        omega arith
    no_act s bytes r h (Outcome.ActOutcome.judged _ a width _ j _) e = no_action s h a r.answer j.number e

    no_stop : (s : State) (bytes : List ℕ) (at n : ℕ) → Reached s → Stopped (net_of net) (read net s) bytes at n → n ≡ 18 → ⊥
    no_stop s bytes at n h (Outcome.Stopped.at_end _ z) e = omega arith
    no_stop s bytes at n h (Outcome.Stopped.unknown _ z) e = omega arith
    no_stop s bytes at n h (Outcome.Stopped.cut _ _ z) e = omega arith
    no_stop s bytes at n h (Outcome.Stopped.refused a width _ is _) e = no_action s h a n is e

    no_list : (s : State) (bytes : List ℕ) (r : Ran) → Reached s → ListOutcome net s bytes r → r.answer ≡ 18 → ⊥
    no_list s bytes r h (Outcome.ListOutcome.out_of_range _ is) e =
        let n : r.answer ≡ 17 = ap (λ (d : Ran). d.answer) is in
        omega arith
    no_list s bytes r h (Outcome.ListOutcome.listed i l) e =
        no_stop r.state bytes r.place r.answer (by_list s bytes r h (Outcome.ListOutcome.listed i l)) l.stopped e

    pub not_18 : (s : State) → Reached s → (x : Step) → answer_to net s x ≡ 18 → ⊥
    unfolding answer_to
    not_18 s h (method k p q) e =
        no_method s (action_of k p q) _ h (method_outcome net s h.sized (action_of k p q)) (sym (ap (λ (d : Done). d.answer) (method_is_action net s k p q)) ∙ e)
    not_18 s h (action bytes) e = no_act s bytes _ h (act_outcome net s h.sized bytes) e
    not_18 s h (list bytes) e = no_list s bytes _ h (list_outcome net s h.sized bytes) e
