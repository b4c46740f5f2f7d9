-- What `specs/Promise.antt` promises, of the definitions that the contracts cite; and that the promise leaves no second answer.
-- Assumes nothing.
use Prim.Native.Nat.{ℕ, zero, suc, ◌+◌, ◌<◌, ◌≤◌, min}
use native.Mathlib.Omega.{arith}
use native.Mathlib.Decide.{dec_lt}
use mathlib.Core.Path.{◌≡◌, refl, sym, ◌∙◌, ap, ap₂, subst}
use mathlib.Core.Bool.{Bool, true, false}
use mathlib.Core.Logic.{◌⊎◌, inl, inr, ⊎_elim}
use mathlib.Core.List.{List, [], ◌∷◌, ◌++◌}
use lib.ListN.{length, get_or, drop, length-append}
use lib.Dec.{eqb}
use Rattle.laws.specs.Lists.{Bytes}
use Rattle.laws.specs.Choice.{if_b}
use Rattle.laws.specs.Below.{sum_below, count_below, pick_below}
use Rattle.laws.proofs.Choice.{if_b_yes, if_b_no, if_lt_yes, if_lt_no, if_eq_yes, if_eq_no, true_not_false}
use Rattle.network.specs.declared.Network.{Network}
use Rattle.network.specs.Valid.{valid_network, Clauses}
use Rattle.network.specs.Zeros.{zero_network}
use Rattle.network.proofs.Valid.{valid_clauses, clauses_valid, valid_limits}
use Rattle.records.specs.Planned.{Planned}
use Rattle.records.specs.Plan.{padded, network_of}
use Rattle.records.specs.Keeps.{no_plan}
use Rattle.records.specs.Reader.{answered}
use Rattle.clusters.specs.Clusters.{cluster_count}
use Rattle.plan.specs.Accepted.{Accepted, Refused}
use Rattle.plan.specs.Checks.{plan_of}
use Rattle.plan.proofs.Answers as plan
use Rattle.plan.proofs.Answers.{accepted_plan, refused_plan}
use Rattle.plan.proofs.Valid.{accepted_is_valid}
use Rattle.lockstep.specs.Table.{table_number, table_of}
use Rattle.lockstep.proofs.Tables.{refused_unwritten, table_length, table_at, table_past}
use Rattle.synchronizer.specs.declared.State.{State}
use Rattle.synchronizer.specs.declared.Done.{Done}
use Rattle.synchronizer.specs.declared.Ran.{Ran}
use Rattle.synchronizer.specs.Start.{fresh_with, start_of}
use Rattle.synchronizer.specs.Entry.{list_of}
use Rattle.synchronizer.proofs.Keeps.{start_sized, start_valid}
use Rattle.automaton.specs.Actions.{Act, output, input}
use Rattle.automaton.specs.Network.{is_root}
use Rattle.automaton.specs.Global as Global
use Rattle.automaton.specs.Run.{run}
use Rattle.automaton.specs.Lockstep.{lockstep}
use Rattle.automaton.proofs.Demand as Automaton
use Rattle.report.specs.Lines.{plan_line, node_line, node_lines, taken_line, end_line}
use Rattle.report.specs.Report.{run_text, list_text, planned_text, text_of, written_in, filled_by}
use Rattle.guarantees.specs.Reading.{net_of, count_of, read}
use Rattle.guarantees.specs.Outcome.{ListOutcome}
use Rattle.guarantees.specs.Steps.{started, finished}
use Rattle.guarantees.specs.Plans as page
use Rattle.guarantees.specs.Promise as Promise
use Rattle.guarantees.specs.Promise.{PlanPromise, StartPromise, TablePromise, plan_shown, nodes_shown, TextPromise, InBuffer, TrialPromise, Reachable, Demand3}
use Rattle.guarantees.proofs.Demand.{starts_64}
use Rattle.guarantees.proofs.Only.{list_is}
use Rattle.guarantees.proofs.Outcomes.{list_outcome}
use Rattle.guarantees.proofs.Plans.{plan_accepted}
use Rattle.guarantees.proofs.Reached.{Reached, by_method, by_act, by_list, started_read, finished_read, no_action}
use Rattle.guarantees.proofs.ByRecords.{accepted_from, accepted_to, refused_from, refused_to}
use Rattle.guarantees.proofs.Start.{start_is, lockstep_is}

-- ---- the plan reader

some : (k : ℕ) → (k ≡ 0 → ⊥) → 0 < k
some zero d = absurd (d refl)
some (suc k) d = omega arith

-- "a network of zeros" is that of no record
zeros_are : zero_network ≡ network_of no_plan
unfolding zero_network network_of padded
zeros_are = refl

pub plan_promise : (s : List ℕ) → Bytes s → PlanPromise s (plan_of s)
plan_promise s small = by (plan.outcome s small)
  where
    by : plan.Outcome s → PlanPromise s (plan_of s)
    by (plan.Outcome.taken n net e A) = Promise.PlanPromise.taken n net (accepted_to small A) e
    by (plan.Outcome.stopped k w d e F) = Promise.PlanPromise.refused k w (some k d) (refused_to small F) (e ∙ ap (answered k w) zeros_are)

pub plan_is : (s : List ℕ) (r : Planned) → PlanPromise s r → r ≡ plan_of s
plan_is s r (Promise.PlanPromise.taken n net A e) = e ∙ sym (accepted_plan s n net (accepted_from A))
plan_is s r (Promise.PlanPromise.refused k w _ F e) = e ∙ ap (answered k w) (sym zeros_are) ∙ sym (refused_plan s k w (refused_from F))

-- ---- the start state

module _ (net : Network) where
  not_valid : valid_network net ≡ false → Clauses net → ⊥
  not_valid e c = true_not_false (valid_network net) (clauses_valid net c) e

  invalid : (Clauses net → ⊥) → valid_network net ≡ false
  invalid none = by (valid_network net) refl
    where
      by : (t : Bool) → valid_network net ≡ t → valid_network net ≡ false
      by true e = absurd (none (valid_clauses net e))
      by false e = e

  pub start_promise : StartPromise net (start_of net)
  unfolding start_of fresh_with
  start_promise = by (valid_network net) refl
    where
      by : (t : Bool) → valid_network net ≡ t → StartPromise net (start_of net)
      by true e = Promise.StartPromise.begun (valid_clauses net e) (if_b_yes (valid_network net) _ _ e)
      by false e = Promise.StartPromise.out_of_range (not_valid e) (if_b_no (valid_network net) _ _ e)

  pub start_one : (r : Done) → StartPromise net r → r ≡ start_of net
  unfolding start_of fresh_with
  start_one r (Promise.StartPromise.begun c e) = e ∙ sym (if_b_yes (valid_network net) _ _ (clauses_valid net c))
  start_one r (Promise.StartPromise.out_of_range c e) = e ∙ sym (if_b_no (valid_network net) _ _ (invalid c))

-- ---- the table

either : (a b : ℕ) → (a < b) ⊎ (b ≤ a)
either a b = by (dec_lt a b)
  where
    by : Dec (a < b) → (a < b) ⊎ (b ≤ a)
    by (yes h) = inl h
    by (no h) = inr (omega arith)

module _ (net : Network) (k room : ℕ) where
  numbered_17 : valid_network net ≡ false → table_number net k room ≡ 17
  unfolding table_number
  numbered_17 e = if_b_no (valid_network net) _ _ e

  module _ (v : valid_network net ≡ true) where
    numbered_20 : net.rounds < k → table_number net k room ≡ 20
    unfolding table_number
    numbered_20 h = if_b_yes (valid_network net) _ _ v ∙ if_lt_yes net.rounds k _ _ h

    numbered_21 : k ≤ net.rounds → room < net.nodes → table_number net k room ≡ 21
    unfolding table_number
    numbered_21 h b = if_b_yes (valid_network net) _ _ v ∙ if_lt_no net.rounds k _ _ h ∙ if_lt_yes room net.nodes _ _ b

    numbered_0 : k ≤ net.rounds → net.nodes ≤ room → table_number net k room ≡ 0
    unfolding table_number
    numbered_0 h b = if_b_yes (valid_network net) _ _ v ∙ if_lt_no net.rounds k _ _ h ∙ if_lt_no room net.nodes _ _ b

module _ (net : Network) (long : length net.starts ≡ 64) (k : ℕ) (out : List ℕ) where
  pub table_promise : TablePromise net k out (table_number net k (length out)) (table_of net k out)
  table_promise = by (valid_network net) refl
    where
      -- a refused table
      unwritten : (n : ℕ) → table_number net k (length out) ≡ n → 0 < n → table_of net k out ≡ out
      unwritten n e h = refused_unwritten net k out (omega arith)

      by : (t : Bool) → valid_network net ≡ t → TablePromise net k out (table_number net k (length out)) (table_of net k out)
      by false e =
          let n = numbered_17 net k (length out) e in
          Promise.TablePromise.out_of_range (not_valid net e) n (unwritten 17 n (omega arith))
      by true e = ⊎_elim
          (λ h. let n = numbered_20 net k (length out) e h in Promise.TablePromise.more_rounds (valid_clauses net e) h n (unwritten 20 n (omega arith)))
          (λ h. ⊎_elim
          (λ b. let n = numbered_21 net k (length out) e h b in Promise.TablePromise.short_buffer (valid_clauses net e) h b n (unwritten 21 n (omega arith)))
          (λ b. let n = numbered_0 net k (length out) e h b in
          Promise.TablePromise.table (valid_clauses net e) h b n (table_length net k out) (λ p i. table_at net k out n p i ∙ lockstep_is net e long k p i) (table_past net k out))
          (either (length out) net.nodes))
          (either net.rounds k)

-- ---- the text

-- how many pass a test is how long the list of them is
count_picks : (t : ℕ → Bool) (n : ℕ) → count_below t n ≡ length (pick_below t n)
unfolding count_below sum_below pick_below if_b
count_picks t zero = refl
count_picks t (suc n) = by (count_picks t n) (t n)
  where
    by : sum_below (λ k. if_b (t k) 1 0) n ≡ length (pick_below t n) → (b : Bool) → sum_below (λ k. if_b (t k) 1 0) n + if_b b 1 0 ≡ length (pick_below t n ++ if_b b (n ∷ []) [])
    by so_far true = omega (arith, length-append (pick_below t n) (n ∷ []))
    by so_far false = omega (arith, length-append (pick_below t n) [])

module _ (net : Network) (v : valid_network net ≡ true) where
  clusters_are : cluster_count net ≡ length (pick_below (is_root (net_of net)) net.nodes)
  unfolding cluster_count is_root net_of
  clusters_are =
      let all : min net.nodes 64 ≡ net.nodes = omega (arith, (valid_limits net v).at_most_64_nodes) in
      ap (count_below (λ p. eqb (get_or net.parents p 0) p)) all ∙ count_picks (λ p. eqb (get_or net.parents p 0) p) net.nodes

  lines_are : (s : State) (n : ℕ) → n ≤ net.nodes → node_lines s.counts s.values n ≡ nodes_shown net s (λ p. get_or s.values p 0) n
  unfolding node_lines started finished read
  lines_are s zero h = refl
  lines_are s (suc n) h =
      ap₂ (λ x y. x ++ y) (lines_are s n (omega arith))
      (ap₂ (λ (x y : ℕ). node_line n x y (get_or s.values n 0)) (started_read net v s n (omega arith)) (finished_read net v s n (omega arith)))

  -- the contract's text of a run, in the promise's words
  pub run_shown : (n : ℕ) (r : Ran) → run_text net n r ≡ plan_shown net ++ nodes_shown net r.state (λ p. get_or r.state.values p 0) net.nodes ++ taken_line r.taken ++ end_line r.answer (n + r.place)
  unfolding run_text
  run_shown n r =
      λ i. plan_line net.nodes net.links (clusters_are i) net.rounds ++ lines_are r.state net.nodes (omega arith) i ++ taken_line r.taken ++ end_line r.answer (n + r.place)

module _ (s : List ℕ) where
  pub text_too_long : 65536 < length s → text_of s ≡ end_line 19 65536
  unfolding text_of
  text_too_long h = if_lt_yes 65536 (length s) (end_line 19 65536) (planned_text s (plan_of s)) h

  module _ (room : length s ≤ 65536) where
    pub text_refused : (k w : ℕ) → 0 < k → Refused s k w → text_of s ≡ end_line k w
    unfolding text_of planned_text
    text_refused k w h F =
        if_lt_no 65536 (length s) (end_line 19 65536) (planned_text s (plan_of s)) room ∙ ap (planned_text s) (refused_plan s k w F) ∙ if_eq_no k 0 _ _ (λ e. omega arith)

    text_accepted : (n : ℕ) (net : Network) → Accepted s n net → text_of s ≡ run_text net n (list_of net (start_of net).state (drop n s))
    unfolding text_of planned_text list_text
    text_accepted n net A =
        if_lt_no 65536 (length s) (end_line 19 65536) (planned_text s (plan_of s)) room ∙ ap (planned_text s) (accepted_plan s n net A) ∙ if_eq_yes 0 0 _ _ refl

  -- the text that is promised is the one of the contract
  pub text_is : (text : List ℕ) → TextPromise s text → text ≡ text_of s
  text_is text (Promise.TextPromise.too_long h e) = e ∙ sym (text_too_long h)
  text_is text (Promise.TextPromise.refused room k w h F e) = e ∙ sym (text_refused room k w h (refused_from F))
  text_is text (Promise.TextPromise.ran room n net b r B S L e) =
      let A = accepted_from B in
      let begun : b ≡ start_of net = start_one net b S in
      let from : ListOutcome net (start_of net).state (drop n s) r = subst (λ (d : Done). ListOutcome net d.state (drop n s) r) begun L in
      let same : r ≡ list_of net (start_of net).state (drop n s) = list_is net (start_of net).state (start_sized net (starts_64 net A)) (drop n s) r from in
      e ∙ sym (run_shown net (accepted_is_valid A) n r) ∙ ap (run_text net n) same ∙ sym (text_accepted room n net A)

  pub text_promise : Bytes s → TextPromise s (text_of s)
  text_promise small = ⊎_elim (λ h. Promise.TextPromise.too_long h (text_too_long h)) (λ h. by h (plan.outcome s small)) (either 65536 (length s))
    where
      by : length s ≤ 65536 → plan.Outcome s → TextPromise s (text_of s)
      by room (plan.Outcome.taken n net e A) =
          Promise.TextPromise.ran room n net (start_of net) (list_of net (start_of net).state (drop n s)) (accepted_to small A) (start_promise net) (list_outcome net (start_of net).state (start_sized net (starts_64 net A)) (drop n s)) (text_accepted room n net A ∙ run_shown net (accepted_is_valid A) n (list_of net (start_of net).state (drop n s)))
      by room (plan.Outcome.stopped k w d e F) = Promise.TextPromise.refused room k w (some k d) (refused_to small F) (text_refused room k w (some k d) F)

-- ---- the lent buffer

pub in_buffer : (text before : List ℕ) → InBuffer text before (written_in (length before) text) (filled_by before text)
unfolding written_in filled_by
in_buffer text before =
    ⊎_elim (λ h. Promise.InBuffer.short h (if_lt_yes (length before) (length text) _ _ h) (if_lt_yes (length before) (length text) _ _ h))
    (λ h. Promise.InBuffer.fits h (if_lt_no (length before) (length text) _ _ h) (if_lt_no (length before) (length text) _ _ h)) (either (length before) (length text))

pub trial_promise : (s before : List ℕ) → Bytes s → length (text_of s) ≤ 2048 → (n : ℕ) (after : List ℕ) → n ≡ written_in (length before) (text_of s) → after ≡ filled_by before (text_of s) → TrialPromise s before n after
trial_promise s before small short n after e f =
    record {
      text = text_of s;
      is = text_promise s small;
      held = subst (λ (x : ℕ × List ℕ). InBuffer (text_of s) before x.0 x.1) (λ i. (sym e i, sym f i)) (in_buffer (text_of s) before);
      at_most = short;
    }

-- ---- demand 3

module _ {bytes : List ℕ} {n : ℕ} (net : Network) (A : Accepted bytes n net) where
  v : valid_network net ≡ true
  v = accepted_is_valid A

  reached : (s : State) → Reachable net s → Reached net s
  unfolding run
  reached s (Promise.Reachable.begin r S) =
      let (valid, sized) = start_valid net (starts_64 net A) v in
      subst (λ (d : Done). Reached net d.state) (sym (start_one net r S)) (record { actions = []; is = start_is net v; valid = valid; sized = sized })
  reached s (Promise.Reachable.method s' a r h o) = by_method net s' a r (reached s' h) o
  reached s (Promise.Reachable.action s' b r h o) = by_act net s' b r (reached s' h) o
  reached s (Promise.Reachable.list s' b r h o) = by_list net s' b r (reached s' h) o

  module _ (s : State) (h : Reachable net s) where
    there : Reached net s
    there = reached s h

    counted : (a : Act) → (run (net_of net) (Global.begin (net_of net)) there.actions).count a ≡ count_of net s a
    unfolding read
    counted a = sym (ap (λ g. g.count a) there.is)

    holds : (p k : ℕ) → count_of net s (input p) ≡ k → get_or s.values p 0 ≡ lockstep (net_of net) k p
    unfolding read
    holds p k e = ap (λ g. g.value p) there.is ∙ Automaton.setpoint (net_of net) (plan_accepted net A) there.actions p k (counted (input p) ∙ e)

    shown_upto : (n : ℕ) → nodes_shown net s (λ p. get_or s.values p 0) n ≡ nodes_shown net s (λ p. lockstep (net_of net) (count_of net s (input p)) p) n
    shown_upto zero = refl
    shown_upto (suc n) =
        ap₂ (λ x y. x ++ y) (shown_upto n) (ap (node_line n (count_of net s (output n)) (count_of net s (input n))) (holds n (count_of net s (input n)) refl))

    pub reached_demand_3 : Demand3 net s
    unfolding net_of
    reached_demand_3 =
        record {
          setpoint = λ p k b e. holds p k e;
          near = λ p q hp hq near. omega (arith, counted (output p), counted (output q), (Automaton.rounds_near (net_of net) (plan_accepted net A) there.actions p q hp hq near).0);
          never_18 = λ a e. no_action net (plan_accepted net A) s there a 18 (sym e) refl;
          shown = shown_upto net.nodes;
        }

pub demand_3 : {bytes : List ℕ} {n : ℕ} (net : Network) → page.Accepted bytes n net → (s : State) → Reachable net s → Demand3 net s
demand_3 net taken = reached_demand_3 net (accepted_from taken)

-- the state whose node lines a trial prints is reached by the plan's list, so demand 3 holds of it, and of the lines
pub printed_demand_3 : {bytes : List ℕ} {n : ℕ} (net : Network) → page.Accepted bytes n net → (s : Done) (r : Ran) → StartPromise net s → ListOutcome net s.state (drop n bytes) r → Demand3 net r.state
printed_demand_3 {bytes} {n} net A s r S L =
    demand_3 net A r.state (Promise.Reachable.list s.state (drop n bytes) r (Promise.Reachable.begin s S) L)
