-- The answer to an action whose nodes are there is the answer of its row: the definition asks 13 and 14 apart from 15, 16 and 18, the code
-- one test after the other.
-- Assumes nothing.
use Prim.Native.Nat.{ℕ, ◌<◌, ◌≤◌}
use native.Mathlib.Omega.{arith}
use mathlib.Core.Path.{◌≡◌, refl, sym, ◌∙◌, ap, subst}
use mathlib.Core.Bool.{Bool, true, false}
use mathlib.Core.List.{List}
use lib.ListN.{get_or}
use Rattle.std.specs.Prelude.{Result}
use Rattle.answers.specs.declared.Refusal.{Refusal}
use Rattle.laws.specs.Choice.{if_b, if_lt, if_eq}
use Rattle.laws.proofs.Choice.{if_b_yes, if_b_no, if_lt_yes, if_lt_no, if_eq_yes, if_eq_no, lt_elim, eq_elim}
use Rattle.actions.specs.declared.Kind.{Kind}
use Rattle.actions.specs.declared.Kind.TheVariants.{Output, Input}
use Rattle.actions.specs.declared.Place.{Place}
use Rattle.actions.specs.declared.Counter.{Counter}
use Rattle.actions.specs.Kinds.{count, count_in}
use Rattle.actions.specs.Table.{place_of, own_of, need_of, every_of, does_of}
use Rattle.queue.specs.Queue.{head_of}
use Rattle.synchronizer.specs.declared.State.{State}
use Rattle.synchronizer.specs.Wires.{Wires, lane_in, is_root, around_of}
use Rattle.synchronizer.specs.Answer.{stands_in, starts_round, count_answer, every_has, queue_answer, own_in, legal_answer, need_answer, answer_in}
use Rattle.synchronizer.specs.Shown.{plain_answer, RowShows, TestShows}
use Rattle.synchronizer.proofs.Rows.{shows_as}

-- the answer is the first that is not 0 of the legal answer and what follows it
legal_first : (stands : Bool) (rest : ℕ) → if_eq (if_b stands 0 14) 0 rest (if_b stands 0 14) ≡ if_b stands rest 14
legal_first true rest = if_eq_yes (if_b true 0 14) 0 rest (if_b true 0 14) (if_b_yes true 0 14 refl) ∙ sym (if_b_yes true rest 14 refl)
legal_first false rest =
    if_eq_no (if_b false 0 14) 0 rest (if_b false 0 14) (λ e. omega (arith, e, if_b_no {A = ℕ} false 0 14 refl)) ∙ if_b_no {A = ℕ} false 0 14 refl ∙ sym (if_b_no false rest 14 refl)

counted_first : (n has rest : ℕ) → if_eq (if_lt n has 0 16) 0 rest (if_lt n has 0 16) ≡ if_lt n has rest 16
counted_first n has rest =
    lt_elim (λ z. if_eq z 0 rest z ≡ if_lt n has rest 16) n has 0 16 (λ h. if_eq_yes 0 0 rest 0 refl ∙ sym (if_lt_yes n has rest 16 h))
    (λ h. if_eq_no 16 0 rest 16 (λ e. omega (arith, e)) ∙ sym (if_lt_no n has rest 16 h))

-- an action's own count is of its kind
own_kind : (v : Place) (k : Kind) (p lane : ℕ) → count k (own_of v k p lane).1 ≡ own_of v k p lane
unfolding own_of
own_kind Place.Node k p lane = refl
own_kind Place.Link k p lane = refl
own_kind Place.PreferredLink k p lane = refl
own_kind Place.Child k p lane = refl
own_kind Place.Root k p lane = refl

-- the row of an action by its own count is the row by its kind
pub row_at : (counts : List ℕ) (v : Place) (k : Kind) (p lane : ℕ) (own : Counter) (stands : Bool) (need : Counter) (rest : ℕ) (r : Result ℕ Refusal) → own ≡ own_of v k p lane → RowShows counts own.0 own.1 stands need rest r → RowShows counts k (own_of v k p lane).1 stands need rest r
row_at counts v k p lane own stands need rest r e h =
    subst (λ i. RowShows counts i (own_of v k p lane).1 stands need rest r) (sym (ap (λ c. c.0) (own_kind v k p lane)))
    (subst (λ c. RowShows counts c.0 c.1 stands need rest r) e h)

pub own_is : (w : Wires) (k : Kind) (p q : ℕ) → count k (own_in w k p q).1 ≡ own_in w k p q
unfolding own_in
own_is w k p q = own_kind (place_of k) k p (lane_in w.lanes p q)

module _ (w : Wires) (s : State) (k : Kind) (p q : ℕ) where
  -- 13
  pub no_first_node : w.nodes ≤ p → answer_in w s k p q ≡ 13
  unfolding answer_in legal_answer
  no_first_node h = ap (λ z. if_eq z 0 (need_answer w s k p q) z) (if_lt_no p w.nodes _ 13 h) ∙ if_eq_no 13 0 (need_answer w s k p q) 13 (λ e. omega (arith, e))

  pub no_second_node : w.nodes ≤ q → answer_in w s k p q ≡ 13
  unfolding answer_in legal_answer
  no_second_node h =
      ap (λ z. if_eq z 0 (need_answer w s k p q) z) (lt_elim (λ z. z ≡ 13) p w.nodes _ 13 (λ _. if_lt_no q w.nodes _ 13 h) (λ _. refl))
      ∙ if_eq_no 13 0 (need_answer w s k p q) 13 (λ e. omega (arith, e))

  module _ (hp : p < w.nodes) (hq : q < w.nodes) where
    abbrev stands : Bool
    stands = stands_in (place_of k) (get_or w.neighbours p 0) (get_or w.preferred p 0) q (is_root w.parents p)

    -- both nodes are there: 14 or what the counts and the queue say
    pub nodes_there : answer_in w s k p q ≡ if_b stands (need_answer w s k p q) 14
    unfolding answer_in legal_answer
    nodes_there =
        ap (λ z. if_eq z 0 (need_answer w s k p q) z) (if_lt_yes p w.nodes _ 13 hp ∙ if_lt_yes q w.nodes _ 13 hq)
        ∙ legal_first stands (need_answer w s k p q)

    -- the row's own count, the one it needs, and what the rest of it answers
    abbrev own : ℕ
    own = count_in s.counts (own_in w k p q)

    abbrev has : ℕ
    has = count_in s.counts (need_of k p (around_of w p q))

    abbrev rest : ℕ
    rest =
        if_b (every_has (every_of k) s.counts w.lanes p own (get_or w.neighbours p 0) (get_or w.children p 0) (get_or w.preferred p 0))
        (queue_answer (does_of k) (head_of s.queues.lens s.queues.sorts s.queues.loads (lane_in w.lanes p q)) (get_or s.queues.lens (lane_in w.lanes p q) 0))
        16

    -- a row that starts no round
    pub answer_of_row : starts_round (does_of k) ≡ false → answer_in w s k p q ≡ plain_answer stands own has rest
    unfolding need_answer count_answer plain_answer
    answer_of_row f =
        nodes_there
        ∙ ap (λ z. if_b stands (if_eq z 0 rest z) 14) (if_b_no (starts_round (does_of k)) (if_lt own w.rounds (if_lt has own 16 0) 15) (if_lt own has 0 16) f)
        ∙ ap (λ z. if_b stands z 14) (counted_first own has rest)

-- output: nothing but the two counts
pub answer_of_output : (w : Wires) (s : State) (p q : ℕ) → p < w.nodes → q < w.nodes → answer_in w s Output p q ≡ count_answer true w.rounds (count_in s.counts (count Output p)) (count_in s.counts (count Input p))
unfolding need_answer place_of own_in own_of need_of every_of does_of stands_in starts_round every_has queue_answer if_b
answer_of_output w s p q hp hq =
    nodes_there w s Output p q hp hq
    ∙ eq_elim (λ z. z ≡ counted) counted 0 0 counted (λ e. sym e) (λ _. refl)
  where
    counted : ℕ
    counted = count_answer true w.rounds (count_in s.counts (count Output p)) (count_in s.counts (count Input p))

-- the same of an action whose kind is known
pub test_told : (w : Wires) (s : State) (k j : Kind) (p q : ℕ) (r : Result ℕ Refusal) → k ≡ j → TestShows w s j p q r → TestShows w s k p q r
test_told w s k j p q r e h = subst (λ i. TestShows w s i p q r) (sym e) h

-- The row of a kind that is known, by what the code looks up: the count that it needs, and what the rest of it answers.
module _ (w : Wires) (s : State) (j : Kind) (p q : ℕ) (need : Counter) (rest : ℕ) (r : Result ℕ Refusal) where
  -- the row, and what the rest of it has to answer, of a kind whose table is j's
  abbrev Row : Kind → Type 0
  Row k =
      RowShows s.counts k (own_of (place_of j) k p (lane_in w.lanes p q)).1 (stands_in (place_of j) (get_or w.neighbours p 0) (get_or w.preferred p 0) q (is_root w.parents p)) need rest r

  abbrev Rest : Kind → Type 0
  Rest k =
      rest ≡ if_b (every_has (every_of j) s.counts w.lanes p (count_in s.counts (count k (own_of (place_of j) k p (lane_in w.lanes p q)).1)) (get_or w.neighbours p 0) (get_or w.children p 0) (get_or w.preferred p 0)) (queue_answer (does_of j) (head_of s.queues.lens s.queues.sorts s.queues.loads (lane_in w.lanes p q)) (get_or s.queues.lens (lane_in w.lanes p q) 0)) 16

  pub row_told : (k : Kind) → k ≡ j → p < w.nodes → q < w.nodes → starts_round (does_of j) ≡ false → Row k → need ≡ need_of j p (around_of w p q) → Rest k → TestShows w s k p q r
  unfolding own_in
  row_told k e hp hq f h en er =
      test_told w s k j p q r e
      (shows_as s.counts j (own_in w j p q).1 _ _ r (same (subst Rest e er) ∙ sym (answer_of_row w s j p q hp hq f)) (subst Row e h))
    where
      stands' : Bool
      stands' = stands_in (place_of j) (get_or w.neighbours p 0) (get_or w.preferred p 0) q (is_root w.parents p)

      after : Counter → ℕ
      after c =
          if_b (every_has (every_of j) s.counts w.lanes p (count_in s.counts c) (get_or w.neighbours p 0) (get_or w.children p 0) (get_or w.preferred p 0))
          (queue_answer (does_of j) (head_of s.queues.lens s.queues.sorts s.queues.loads (lane_in w.lanes p q)) (get_or s.queues.lens (lane_in w.lanes p q) 0))
          16

      same : Rest j → plain_answer stands' (count_in s.counts (count j (own_in w j p q).1)) (count_in s.counts need) rest ≡ plain_answer stands' (count_in s.counts (own_in w j p q)) (count_in s.counts (need_of j p (around_of w p q))) (after (own_in w j p q))
      same er' =
          ap (plain_answer stands' (count_in s.counts (count j (own_in w j p q).1)) (count_in s.counts need)) er'
          ∙ ap (λ c. plain_answer stands' (count_in s.counts (count j (own_in w j p q).1)) (count_in s.counts c) (after (count j (own_in w j p q).1))) en
          ∙ ap (λ c. plain_answer stands' (count_in s.counts c) (count_in s.counts (need_of j p (around_of w p q))) (after c)) (own_is w j p q)
