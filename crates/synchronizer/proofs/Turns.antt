-- One turn over the bytes, and one turn after the other: what a record comes to by what was read, and how the list goes on, stops or ends.
-- Assumes nothing.
use Prim.Native.Nat.{ℕ, zero, suc, ◌+◌, ◌<◌, ◌≤◌}
use native.Mathlib.Omega.{arith}
use native.Mathlib.Decide.{dec_lt}
use mathlib.Core.Path.{◌≡◌, refl, sym, ◌∙◌, ap, subst}
use mathlib.Core.List.{List}
use lib.ListN.{length}
use Rattle.std.specs.Prelude.{Result, Ok, Err}
use Rattle.laws.proofs.Choice.{if_lt_yes, if_lt_no, if_eq_yes, if_eq_no, eq_elim}
use Rattle.answers.specs.declared.Refusal.{Refusal}
use Rattle.answers.specs.Numbers.{number_of}
use Rattle.answers.proofs.Named.{answer_of-injective}
use Rattle.actions.specs.declared.Kind.{Kind}
use Rattle.actions.specs.declared.Act.{Act}
use Rattle.actions.specs.Records.{read_at}
use Rattle.actions.proofs.Records.{record_within}
use Rattle.synchronizer.specs.declared.State.{State}
use Rattle.synchronizer.specs.declared.Done.{Done}
use Rattle.synchronizer.specs.declared.Acted.{Acted}
use Rattle.synchronizer.specs.declared.Ran.{Ran}
use Rattle.synchronizer.specs.Wires.{Wires}
use Rattle.synchronizer.specs.Answer.{answer_in}
use Rattle.synchronizer.specs.After.{after_in}
use Rattle.synchronizer.specs.Entry.{done, acted, ran, done_in, acted_as, record_in, act_in, list_from}

-- a refusal has a number
pub some_number : (e : Refusal) → 0 < number_of e
some_number e = at (dec_lt 0 (number_of e))
  where
    at : Dec (0 < number_of e) → 0 < number_of e
    at (yes h) = h
    at (no h) = absurd (let same = answer_of-injective (Err e) (Ok tt) (omega arith) in cc)

module _ (w : Wires) (s : State) (bytes : List ℕ) (at : ℕ) where
  -- no action there
  pub nothing_read : (e : Refusal) → Err e ≡ read_at bytes at → acted (number_of e) 0 s ≡ act_in w s bytes at
  unfolding act_in record_in
  nothing_read e so = ap (record_in w s) so

  module _ (a : Act) (so : Ok a ≡ read_at bytes at) (t : State) where
    pub refused_turn : (e : Refusal) → done (number_of e) t ≡ done_in w s a.kind a.p a.q → acted (number_of e) 0 t ≡ act_in w s bytes at
    unfolding act_in record_in acted_as
    refused_turn e d =
        sym (if_eq_no (number_of e) 0 (acted 0 a.width t) (acted (number_of e) 0 t) (λ z. omega (arith, z, some_number e)))
        ∙ ap (λ x. acted_as x a.width) d
        ∙ ap (record_in w s) so

    pub taken_turn : done 0 t ≡ done_in w s a.kind a.p a.q → acted 0 a.width t ≡ act_in w s bytes at
    unfolding act_in record_in acted_as
    taken_turn d =
        sym (if_eq_yes 0 0 (acted 0 a.width t) (acted 0 0 t) refl) ∙ ap (λ x. acted_as x a.width) d ∙ ap (record_in w s) so

-- ---- what a turn leaves

module _ (w : Wires) (s : State) where
  -- a refused action hands the state back as it came
  pub refused_done : (k : Kind) (p q : ℕ) → 0 < (done_in w s k p q).answer → (done_in w s k p q).state ≡ s
  unfolding done_in
  refused_done k p q =
      eq_elim (λ d. 0 < d.answer → d.state ≡ s) (answer_in w s k p q) 0 (done 0 (after_in w s k p q)) (done (answer_in w s k p q) s) (λ _ h. absurd (omega arith)) (λ _ _. refl)

  module _ (bytes : List ℕ) (at : ℕ) where
    pub refused_act : 0 < (act_in w s bytes at).answer → (act_in w s bytes at).state ≡ s
    unfolding act_in record_in acted_as
    refused_act = by (read_at bytes at)
      where
        by : (r : Result Act Refusal) → 0 < (record_in w s r).answer → (record_in w s r).state ≡ s
        by (Err e) h = refl
        by (Ok a) h =
            let d : Done = done_in w s a.kind a.p a.q in
            eq_elim (λ x. 0 < x.answer → x.state ≡ s) d.answer 0 (acted 0 a.width d.state) (acted d.answer 0 d.state) (λ _ g. absurd (omega arith)) (λ _ g. refused_done a.kind a.p a.q g) h

    -- an action that is taken takes its record's bytes, two or three
    pub taken_act : (act_in w s bytes at).answer ≡ 0 → (1 < (act_in w s bytes at).place) × (at + (act_in w s bytes at).place ≤ length bytes)
    unfolding act_in record_in acted_as
    taken_act = by (read_at bytes at) refl
      where
        by : (r : Result Act Refusal) → read_at bytes at ≡ r → (record_in w s r).answer ≡ 0 → (1 < (record_in w s r).place) × (at + (record_in w s r).place ≤ length bytes)
        by (Err f) e z = absurd (omega (arith, z, some_number f))
        by (Ok a) e z =
            let d : Done = done_in w s a.kind a.p a.q in
            let within = record_within bytes at a.kind a.p a.q a.width e in
            eq_elim (λ x. x.answer ≡ 0 → (1 < x.place) × (at + x.place ≤ length bytes)) d.answer 0 (acted 0 a.width d.state) (acted d.answer 0 d.state) (λ _ _. (within.0, within.2)) (λ n y. absurd (n y)) z

    pub turn_moves : (t : Acted) → t ≡ act_in w s bytes at → t.answer ≡ 0 → (1 < t.place) × (at + t.place ≤ length bytes)
    turn_moves t e z =
        subst (λ x. (1 < x.place) × (at + x.place ≤ length bytes)) (sym e) (taken_act (subst (λ x. x.answer ≡ 0) e z))

    -- ---- one turn of the list

    module _ (turns taken : ℕ) (inside : at < length bytes) where
      pub list_on : (act_in w s bytes at).answer ≡ 0 → list_from (suc turns) w s bytes at taken ≡ list_from turns w (act_in w s bytes at).state bytes (at + (act_in w s bytes at).place) (taken + 1)
      unfolding list_from
      list_on z = if_lt_yes at (length bytes) _ _ inside ∙ if_eq_yes (act_in w s bytes at).answer 0 _ _ z

      pub list_stops : 0 < (act_in w s bytes at).answer → list_from (suc turns) w s bytes at taken ≡ ran (act_in w s bytes at).answer at taken s
      unfolding list_from
      list_stops h = if_lt_yes at (length bytes) _ _ inside ∙ if_eq_no (act_in w s bytes at).answer 0 _ _ (λ z. omega arith)

    pub list_ends : (turns taken : ℕ) → length bytes ≤ at → list_from turns w s bytes at taken ≡ ran 0 at taken s
    unfolding list_from
    list_ends zero taken h = refl
    list_ends (suc turns) taken h = if_lt_no at (length bytes) _ _ h

-- ---- the list on its way: some turns are left, enough for the bytes that are, and lead where the whole list does

module _ (w : Wires) (first : State) (bytes : List ℕ) where
  abbrev pub whole : Ran
  whole = list_from (suc (length bytes)) w first bytes 0 0

  pub record Going (s : State) (at taken : ℕ) : Type 0 where
    pub turns : ℕ
    pub enough : length bytes < turns + at
    pub within : at ≤ length bytes
    pub few : taken ≤ at
    pub same : list_from turns w s bytes at taken ≡ whole

  pub going_start : Going first 0 0
  going_start =
      record { turns = suc (length bytes); enough = omega arith; within = omega arith; few = omega arith; same = refl }

  module _ (s : State) (at taken : ℕ) where
    -- a turn before the end leaves one fewer
    one_fewer : at < length bytes → Going s at taken → (turns : ℕ) × (length bytes < suc turns + at) × (list_from (suc turns) w s bytes at taken ≡ whole)
    one_fewer h g = by g.turns g.enough g.same
      where
        by : (n : ℕ) → length bytes < n + at → list_from n w s bytes at taken ≡ whole → (turns : ℕ) × (length bytes < suc turns + at) × (list_from (suc turns) w s bytes at taken ≡ whole)
        by zero e same = absurd (omega arith)
        by (suc n) e same = (n, e, same)

    pub going_on : (t : Acted) → Going s at taken → at < length bytes → t ≡ act_in w s bytes at → t.answer ≡ 0 → Going t.state (at + t.place) (taken + 1)
    going_on t g h e z = subst (λ x. Going x.state (at + x.place) (taken + 1)) (sym e) (next (subst (λ x. x.answer ≡ 0) e z))
      where
        next : (act_in w s bytes at).answer ≡ 0 → Going (act_in w s bytes at).state (at + (act_in w s bytes at).place) (taken + 1)
        next y =
            let fewer = one_fewer h g in
            let within = taken_act w s bytes at y in
            record {
              turns = fewer.0;
              enough = omega (arith, fewer.1, within.0);
              within = within.1;
              few = omega (arith, g.few, within.0);
              same = sym (list_on w s bytes at fewer.0 taken h y) ∙ fewer.2;
            }

    pub going_stops : (t : Acted) → Going s at taken → at < length bytes → t ≡ act_in w s bytes at → 0 < t.answer → ran t.answer at taken t.state ≡ whole
    going_stops t g h e p = ap (λ x. ran x.answer at taken x.state) e ∙ stop (subst (λ x. 0 < x.answer) e p)
      where
        stop : 0 < (act_in w s bytes at).answer → ran (act_in w s bytes at).answer at taken (act_in w s bytes at).state ≡ whole
        stop y =
            let fewer = one_fewer h g in
            ap (ran (act_in w s bytes at).answer at taken) (refused_act w s bytes at y) ∙ sym (list_stops w s bytes at fewer.0 taken h y) ∙ fewer.2

    pub going_ends : Going s at taken → length bytes ≤ at → ran 0 at taken s ≡ whole
    going_ends g h = sym (list_ends w s bytes at g.turns taken h) ∙ g.same
