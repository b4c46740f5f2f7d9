-- A list of actions is its records handed in one by one, and the methods called in turn: each of these looks at 17 again and again, the list
-- once, and an action that is taken keeps the state in range. How many it took is the number of records before its place, and an action
-- depends on its record's bytes alone.
-- Assumes nothing.
use Prim.Native.Nat.{ℕ, zero, suc, ◌+◌, ◌<◌, ◌≤◌}
use native.Mathlib.Nat.{add-zero, zero-add, add_assoc}
use native.Mathlib.Omega.{arith}
use native.Mathlib.Decide.{dec_lt}
use mathlib.Core.Path.{◌≡◌, refl, sym, ◌∙◌, ap, ap₂}
use mathlib.Core.Bool.{true}
use mathlib.Core.List.{List}
use lib.ListN.{length, take, drop, length-drop}
use lib.Seq.{drop-drop}
use Rattle.std.specs.Prelude.{Result, Ok, Err}
use Rattle.laws.specs.Choice.{if_b, if_lt, if_eq}
use Rattle.laws.proofs.Choice.{if_b_yes, if_lt_yes, if_lt_no, if_eq_yes, if_eq_no, b_elim, lt_elim, eq_elim, both_left, both_right, both_yes}
use Rattle.answers.specs.declared.Refusal.{Refusal}
use Rattle.answers.specs.Numbers.{number_of}
use Rattle.network.specs.declared.Network.{Network}
use Rattle.network.specs.Valid.{valid_network}
use Rattle.actions.specs.declared.Kind.{Kind}
use Rattle.actions.specs.declared.Act.{Act}
use Rattle.actions.specs.Records.{read_at}
use Rattle.actions.proofs.Records.{read_dropped, record_bytes_only}
use Rattle.synchronizer.specs.declared.State.{State}
use Rattle.synchronizer.specs.declared.Done.{Done}
use Rattle.synchronizer.specs.declared.Acted.{Acted}
use Rattle.synchronizer.specs.declared.Ran.{Ran}
use Rattle.synchronizer.specs.Wires.{Wires, wires_of}
use Rattle.synchronizer.specs.Valid.{valid_state, Sized}
use Rattle.synchronizer.specs.Entry.{done, acted, ran, in_range, done_in, done_of, acted_as, record_in, act_in, act_of, list_from, list_of}
use Rattle.synchronizer.specs.InTurn.{further, one_by_one, called, by_methods, width_of, records_between}
use Rattle.synchronizer.proofs.Keeps.{Sound, done_in_keeps, act_in_keeps}
use Rattle.synchronizer.proofs.Turns.{some_number, taken_act, list_on, list_stops, list_ends}

-- ---- 17 is looked at again and again, and passes

module _ (net : Network) (v : valid_network net ≡ true) where
  abbrev w : Wires
  w = wires_of net

  still_in_range : (s : State) → Sound net s → in_range net s ≡ true
  unfolding in_range
  still_in_range s h = both_yes (valid_network net) (valid_state net s) v h.0

  act_again : (s : State) (bytes : List ℕ) → Sound net s → act_of net s bytes ≡ act_in w s bytes 0
  unfolding act_of
  act_again s bytes h = if_b_yes (in_range net s) (act_in w s bytes 0) (acted 17 0 s) (still_in_range s h)

  done_again : (s : State) (k : Kind) (p q : ℕ) → Sound net s → done_of net s k p q ≡ done_in w s k p q
  unfolding done_of
  done_again s k p q h = if_b_yes (in_range net s) (done_in w s k p q) (done 17 s) (still_in_range s h)

  -- the record at a place is the first of what is left from there
  act_left : (s : State) (bytes : List ℕ) (at : ℕ) → act_in w s (drop at bytes) 0 ≡ act_in w s bytes at
  unfolding act_in
  act_left s bytes at = ap (record_in w s) (read_dropped bytes at 0 ∙ ap (read_at bytes) (add-zero at))

  -- ---- one by one

  first_left : (s : State) (bytes : List ℕ) (at : ℕ) → Sound net s → act_of net s (drop at bytes) ≡ act_in w s bytes at
  first_left s bytes at h = act_again s (drop at bytes) h ∙ act_left s bytes at

  module _ (turns : ℕ) (s : State) (bytes : List ℕ) (a : Acted) (e : act_of net s bytes ≡ a) where
    one_on : 0 < length bytes → a.answer ≡ 0 → one_by_one net (suc turns) s bytes ≡ further a.place 1 (one_by_one net turns a.state (drop a.place bytes))
    unfolding one_by_one
    one_on h z =
        if_lt_yes 0 (length bytes) _ _ h ∙ if_eq_yes (act_of net s bytes).answer 0 _ _ (ap (λ x. x.answer) e ∙ z)
        ∙ ap (λ x. further x.place 1 (one_by_one net turns x.state (drop x.place bytes))) e

    one_stops : 0 < length bytes → 0 < a.answer → one_by_one net (suc turns) s bytes ≡ ran a.answer 0 0 s
    unfolding one_by_one
    one_stops h n =
        if_lt_yes 0 (length bytes) _ _ h ∙ if_eq_no (act_of net s bytes).answer 0 _ _ (λ z. omega (arith, ap (λ x. x.answer) e))
        ∙ ap (λ x. ran x.answer 0 0 s) e

  one_ends : (turns : ℕ) (s : State) (bytes : List ℕ) → length bytes ≤ 0 → one_by_one net turns s bytes ≡ ran 0 0 0 s
  unfolding one_by_one
  one_ends zero s bytes h = refl
  one_ends (suc turns) s bytes h = if_lt_no 0 (length bytes) _ _ h

  -- places and numbers from a place on, then from the start of that place's own
  further_none : (answer at taken : ℕ) (s : State) → ran answer at taken s ≡ further at taken (ran answer 0 0 s)
  further_none answer at taken s = ap₂ (λ x y. ran answer x y s) (sym (add-zero at)) (sym (add-zero taken))

  further_further : (at taken place : ℕ) (r : Ran) → further (at + place) (taken + 1) r ≡ further at taken (further place 1 r)
  further_further at taken place r =
      ap₂ (λ x y. ran r.answer x y r.state) (add_assoc at place r.place) (add_assoc taken 1 r.taken)

  one_by_one_from : (turns : ℕ) (s : State) (bytes : List ℕ) (at taken : ℕ) → Sound net s → list_from turns w s bytes at taken ≡ further at taken (one_by_one net turns s (drop at bytes))
  unfolding list_from one_by_one
  one_by_one_from zero s bytes at taken h = further_none 0 at taken s
  one_by_one_from (suc turns) s bytes at taken h = by (dec_lt at (length bytes)) (one_by_one_from turns)
    where
      a : Acted
      a = act_in w s bytes at

      left : at < length bytes → 0 < length (drop at bytes)
      left l = omega (arith, length-drop at bytes)

      goes : at < length bytes → Dec (0 < a.answer) → ((s' : State) (bytes' : List ℕ) (at' taken' : ℕ) → Sound net s' → list_from turns w s' bytes' at' taken' ≡ further at' taken' (one_by_one net turns s' (drop at' bytes'))) → list_from (suc turns) w s bytes at taken ≡ further at taken (one_by_one net (suc turns) s (drop at bytes))
      goes l (yes n) ih =
          list_stops w s bytes at turns taken l n ∙ further_none a.answer at taken s
          ∙ ap (further at taken) (sym (one_stops turns s (drop at bytes) a (first_left s bytes at h) (left l) n))
      goes l (no n) ih =
          let z : a.answer ≡ 0 = omega arith in
          list_on w s bytes at turns taken l z
          ∙ ih a.state bytes (at + a.place) (taken + 1) (act_in_keeps net v s bytes at h)
          ∙ ap (λ l'. further (at + a.place) (taken + 1) (one_by_one net turns a.state l')) (sym (drop-drop a.place at bytes))
          ∙ further_further at taken a.place (one_by_one net turns a.state (drop a.place (drop at bytes)))
          ∙ ap (further at taken) (sym (one_on turns s (drop at bytes) a (first_left s bytes at h) (left l) z))

      by : Dec (at < length bytes) → ((s' : State) (bytes' : List ℕ) (at' taken' : ℕ) → Sound net s' → list_from turns w s' bytes' at' taken' ≡ further at' taken' (one_by_one net turns s' (drop at' bytes'))) → list_from (suc turns) w s bytes at taken ≡ further at taken (one_by_one net (suc turns) s (drop at bytes))
      by (yes l) ih = goes l (dec_lt 0 a.answer) ih
      by (no l) ih =
          list_ends w s bytes at (suc turns) taken (omega arith) ∙ further_none 0 at taken s
          ∙ ap (further at taken) (sym (one_ends (suc turns) s (drop at bytes) (omega (arith, length-drop at bytes))))

  -- ---- the methods in turn

  methods_from : (turns : ℕ) (s : State) (bytes : List ℕ) (at taken : ℕ) → Sound net s → list_from turns w s bytes at taken ≡ by_methods net turns s bytes at taken
  unfolding list_from by_methods called act_in record_in acted_as
  methods_from zero s bytes at taken h = refl
  methods_from (suc turns) s bytes at taken h =
      ap (λ x. if_lt at (length bytes) x (ran 0 at taken s)) (by (read_at bytes at) (methods_from turns))
    where
      -- how the list goes on from what a record came to, and how the methods do from a method's
      listed : Acted → Ran
      listed a = if_eq a.answer 0 (list_from turns w a.state bytes (at + a.place) (taken + 1)) (ran a.answer at taken s)

      method : ℕ → Done → Ran
      method width d = if_eq d.answer 0 (by_methods net turns d.state bytes (at + width) (taken + 1)) (ran d.answer at taken s)

      Same : Type 0
      Same = (s' : State) (bytes' : List ℕ) (at' taken' : ℕ) → Sound net s' → list_from turns w s' bytes' at' taken' ≡ by_methods net turns s' bytes' at' taken'

      of_method : (width : ℕ) (d : Done) → Sound net d.state → Same → Dec (0 < d.answer) → listed (acted_as d width) ≡ method width d
      of_method width d k ih (yes n) =
          let r : d.answer ≡ 0 → ⊥ = λ z. omega arith in
          ap listed (if_eq_no d.answer 0 (acted 0 width d.state) (acted d.answer 0 d.state) r)
          ∙ if_eq_no d.answer 0 _ (ran d.answer at taken s) r ∙ sym (if_eq_no d.answer 0 _ (ran d.answer at taken s) r)
      of_method width d k ih (no n) =
          let z : d.answer ≡ 0 = omega arith in
          ap listed (if_eq_yes d.answer 0 (acted 0 width d.state) (acted d.answer 0 d.state) z)
          ∙ if_eq_yes 0 0 (list_from turns w d.state bytes (at + width) (taken + 1)) (ran 0 at taken s) refl
          ∙ ih d.state bytes (at + width) (taken + 1) k
          ∙ sym (if_eq_yes d.answer 0 (by_methods net turns d.state bytes (at + width) (taken + 1)) (ran d.answer at taken s) z)

      by : (r : Result Act Refusal) → Same → listed (record_in w s r) ≡ called net (λ t to. by_methods net turns t bytes to (taken + 1)) s at taken r
      by (Err e) ih = if_eq_no (number_of e) 0 _ (ran (number_of e) at taken s) (λ z. omega (arith, z, some_number e))
      by (Ok a) ih =
          let d : Done = done_in w s a.kind a.p a.q in
          of_method a.width d (done_in_keeps net v s a.kind a.p a.q h) ih (dec_lt 0 d.answer)
          ∙ ap (method a.width) (sym (done_again s a.kind a.p a.q h))

-- ---- the list, whole

module _ (net : Network) (s : State) (ok : in_range net s ≡ true) (sized : Sized s) (bytes : List ℕ) where
  there : valid_network net ≡ true
  unfolding in_range
  there = both_left (valid_network net) (valid_state net s) ok

  sound : Sound net s
  unfolding in_range
  sound = (both_right (valid_network net) (valid_state net s) ok, sized)

  -- "handing its records in one by one"
  pub list_is_one_by_one : list_of net s bytes ≡ one_by_one net (suc (length bytes)) s bytes
  unfolding list_of
  list_is_one_by_one =
      if_b_yes (in_range net s) _ _ ok ∙ one_by_one_from net there (suc (length bytes)) s bytes 0 0 sound
      ∙ ap₂ (λ x y. ran each.answer x y each.state) (zero-add each.place) (zero-add each.taken)
    where
      each : Ran
      each = one_by_one net (suc (length bytes)) s bytes

  -- "calling the twenty methods .. in turn"
  pub list_is_methods_in_turn : list_of net s bytes ≡ by_methods net (suc (length bytes)) s bytes 0 0
  unfolding list_of
  list_is_methods_in_turn =
      if_b_yes (in_range net s) _ _ ok ∙ methods_from net there (suc (length bytes)) s bytes 0 0 sound

-- ---- "the number taken is the number of records before the place"

module _ (w : Wires) (bytes : List ℕ) where
  place_from : (turns : ℕ) (s : State) (at taken : ℕ) → at ≤ (list_from turns w s bytes at taken).place
  unfolding list_from
  place_from zero s at taken = omega arith
  place_from (suc turns) s at taken =
      lt_elim {A = Ran} (λ r. at ≤ r.place) at (length bytes) _ _ (λ _. eq_elim {A = Ran} (λ r. at ≤ r.place) (act_in w s bytes at).answer 0 _ _ (λ _. omega (arith, place_from turns (act_in w s bytes at).state (at + (act_in w s bytes at).place) (taken + 1))) (λ _. omega arith)) (λ _. omega arith)

  -- a record that is taken is as wide as the bytes it takes
  taken_width : (s : State) (at : ℕ) → (act_in w s bytes at).answer ≡ 0 → (act_in w s bytes at).place ≡ width_of (read_at bytes at)
  unfolding act_in record_in acted_as width_of
  taken_width s at = by (read_at bytes at)
    where
      by : (r : Result Act Refusal) → (record_in w s r).answer ≡ 0 → (record_in w s r).place ≡ width_of r
      by (Err e) z = absurd (omega (arith, z, some_number e))
      by (Ok a) z =
          eq_elim {A = Acted} (λ x. x.answer ≡ 0 → x.place ≡ a.width) (done_in w s a.kind a.p a.q).answer 0 _ _ (λ _ _. refl) (λ n y. absurd (n y)) z

  taken_from : (turns : ℕ) (s : State) (at taken : ℕ) → (list_from turns w s bytes at taken).taken ≡ taken + records_between turns bytes at (list_from turns w s bytes at taken).place
  unfolding list_from records_between
  taken_from zero s at taken = omega arith
  taken_from (suc turns) s at taken =
      lt_elim {A = Ran} (λ r. r.taken ≡ taken + records_between (suc turns) bytes at r.place) at (length bytes) _ _ (λ _. eq_elim {A = Ran} (λ r. r.taken ≡ taken + records_between (suc turns) bytes at r.place) a.answer 0 _ _ (λ z. one_more z (taken_from turns a.state (at + a.place) (taken + 1))) (λ _. none)) (λ _. none)
    where
      a : Acted
      a = act_in w s bytes at

      none : taken ≡ taken + records_between (suc turns) bytes at at
      none = omega (arith, if_lt_no at at (suc (records_between turns bytes (at + width_of (read_at bytes at)) at)) 0 (omega arith))

      rest : Ran
      rest = list_from turns w a.state bytes (at + a.place) (taken + 1)

      one_more : a.answer ≡ 0 → rest.taken ≡ taken + 1 + records_between turns bytes (at + a.place) rest.place → rest.taken ≡ taken + records_between (suc turns) bytes at rest.place
      one_more z ih =
          let moved : at < rest.place = omega (arith, (taken_act w s bytes at z).0, place_from turns a.state (at + a.place) (taken + 1)) in
          omega (arith, ih, if_lt_yes at rest.place (suc (records_between turns bytes (at + width_of (read_at bytes at)) rest.place)) 0 moved, ap (λ x. records_between turns bytes (at + x) rest.place) (taken_width s at z))

pub taken_is_records_before : (net : Network) (s : State) (bytes : List ℕ) → (list_of net s bytes).taken ≡ records_between (suc (length bytes)) bytes 0 (list_of net s bytes).place
unfolding list_of records_between
taken_is_records_before net s bytes =
    b_elim {A = Ran} (λ r. r.taken ≡ records_between (suc (length bytes)) bytes 0 r.place) (in_range net s) _ _ (λ _. taken_from (wires_of net) bytes (suc (length bytes)) s 0 0 ∙ zero-add _)
    (λ _. sym (if_lt_no 0 0 _ 0 (omega arith)))

-- ---- "bytes after it are not read"

pub action_bytes_only : (net : Network) (s : State) (bytes other : List ℕ) (a : Act) → read_at bytes 0 ≡ Ok a → take a.width bytes ≡ take a.width other → act_of net s other ≡ act_of net s bytes
unfolding act_of act_in
action_bytes_only net s bytes other a e t =
    ap (λ r. if_b (in_range net s) (record_in (wires_of net) s r) (acted 17 0 s)) (record_bytes_only bytes other 0 a.kind a.p a.q a.width t e ∙ sym e)
