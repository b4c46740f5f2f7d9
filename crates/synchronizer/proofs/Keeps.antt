-- A taken action keeps the state within the ranges of answer 17 and its arrays as long as they were; a refused one hands the state back. So a
-- state that is in range stays so through methods, single actions and lists, from a start state on. The counts are kept since the count that
-- rises is in use and below one that is at most rounds; the queues by `Waiting.antt`; a slot and a value that are set are in use.
-- Assumes nothing.
use Prim.Native.Nat.{ℕ, zero, suc, ◌+◌, ◌*◌, ◌/◌, ◌%◌, ◌<◌, ◌≤◌}
use native.Mathlib.Omega.{arith}
use native.Mathlib.Decide.{dec_lt}
use mathlib.Core.Path.{◌≡◌, refl, sym, ◌∙◌, ap, subst}
use mathlib.Core.Bool.{Bool, true, false}
use mathlib.Core.List.{List}
use lib.Dec.{eqb}
use lib.ListN.{length, get_or, set, replicate, length-set, length-replicate, get_or-eq_default}
use borrow.Author.Tests.{eqb-true}
use Rattle.std.specs.Prelude.{Result, Ok, Err}
use Rattle.answers.specs.declared.Refusal.{Refusal}
use Rattle.laws.specs.Choice.{if_b, both}
use Rattle.laws.specs.Below.{all_below}
use Rattle.laws.proofs.Choice.{if_b_yes, b_elim, lt_elim, eq_elim, both_left, true_not_false}
use Rattle.network.specs.declared.Network.{Network}
use Rattle.network.specs.Valid.{valid_network}
use Rattle.network.proofs.Valid.{valid_limits, valid_rest}
use Rattle.actions.specs.declared.Kind.{Kind}
use Rattle.actions.specs.declared.Does.{Does}
use Rattle.actions.specs.declared.Act.{Act}
use Rattle.actions.specs.Kinds.{kinds, index_of, kind_at, count, cell_of, count_in}
use Rattle.actions.specs.Table.{place_of, need_of, does_of}
use Rattle.actions.specs.Records.{names_of, body_of, read_at}
use Rattle.actions.proofs.Numbers.{every_kind, number_at}
use Rattle.actions.proofs.Cells.{same_cell}
use Rattle.synchronizer.specs.declared.State.{State}
use Rattle.synchronizer.specs.declared.Done.{Done}
use Rattle.synchronizer.specs.declared.Acted.{Acted}
use Rattle.synchronizer.specs.declared.Ran.{Ran}
use Rattle.synchronizer.specs.Wires.{Wires, wires_of, lane_in, around_of}
use Rattle.synchronizer.specs.Answer.{starts_round, own_in, answer_of}
use Rattle.synchronizer.specs.After.{state_of, mean_heard, effect_in, counted, after_in, after_of}
use Rattle.synchronizer.specs.Start.{fresh_with, start_of}
use Rattle.synchronizer.specs.Entry.{done, in_range, done_in, done_of, acted_as, record_in, act_in, act_of, list_from, list_of}
use Rattle.synchronizer.specs.Valid.{valid_state, Sized}
use Rattle.laws.proofs.Entries.{set_keeps_at, repeated_at}
use Rattle.queue.specs.declared.Head.{Head}
use Rattle.queue.specs.declared.Queues.{Queues}
use Rattle.queue.specs.Queue.{packet, ack, head_of, pushed, slot_at, heard_in}
use Rattle.ranges.specs.Fits.{used_by, entry_fits, load_fits, past_fits}
use Rattle.synchronizer.proofs.States.{Message, a_packet_lem, an_ack_lem, entry_of, entry_most, sort_of, load_of, past_of, Passes, valid_passes, passes_valid, used_at_most_256}
use Rattle.synchronizer.proofs.Turns.{refused_done, refused_act}
use Rattle.synchronizer.proofs.Waiting.{QueuesSound, pushed_keeps, popped_keeps}
use Rattle.synchronizer.proofs.Taken.{Taken, answer_0_taken, count_may_rise, taken_lane, taken_own}

-- what is kept: the state is in range, and its arrays are as long as the struct says
abbrev pub Sound : Network → State → Type 0
Sound net s = (valid_state net s ≡ true) × Sized s

-- the same, array by array
abbrev CountsSound : Network → List ℕ → Type 0
CountsSound net counts =
    ((k : Kind) (x : ℕ) → x < 256 → entry_fits net.rounds (used_by net.nodes net.links k) x (count_in counts (count k x)) ≡ true) × (length counts ≡ length kinds * 256)

abbrev RestSound : ℕ → ℕ → List ℕ → Type 0
RestSound used n xs = ((x : ℕ) → x < n → past_fits used x (get_or xs x 0) ≡ true) × (length xs ≡ n)

record Kept (net : Network) (s : State) : Type 0 where
  counts : CountsSound net s.counts
  queues : QueuesSound net.links s.queues
  slots : RestSound (net.links * 4) 512 s.slots
  values : RestSound net.nodes 64 s.values

sound_kept : (net : Network) (s : State) → Sound net s → Kept net s
sound_kept net s h =
    let a = valid_passes net s h.0 in
    let z = h.1 in
    record {
      counts = (a.counted, z.counts);
      queues = (a.queued, record { lens = z.lens; sorts = z.sorts; loads = z.loads });
      slots = (a.slot, z.slots);
      values = (a.value, z.values);
    }

kept_sound : (net : Network) (s : State) → Kept net s → Sound net s
kept_sound net s h =
    let q = h.queues.1 in
    (passes_valid net s (record { counted = h.counts.0; queued = h.queues.0; slot = h.slots.0; value = h.values.0 }), record { counts = h.counts.1; lens = q.lens; sorts = q.sorts; loads = q.loads; slots = h.slots.1; values = h.values.1 })

-- ---- counts

-- no count is above rounds, whatever the cell
every_count : (net : Network) (counts : List ℕ) → CountsSound net counts → (c : ℕ) → get_or counts c 0 ≤ net.rounds
unfolding index_of cell_of
every_count net counts kept c = at (dec_lt c (length kinds * 256))
  where
    k : Kind
    k = kind_at (c / 256)

    at : Dec (c < length kinds * 256) → get_or counts c 0 ≤ net.rounds
    at (yes h) =
        let cell : index_of k * 256 + c % 256 ≡ c = omega (arith, number_at (c / 256) (omega arith)) in
        subst (λ x. get_or counts x 0 ≤ net.rounds) cell (entry_most net.rounds (used_by net.nodes net.links k) (c % 256) (kept.0 k (c % 256) (omega arith)))
    at (no h) = omega (arith, get_or-eq_default counts 0 {n = c} (omega (arith, kept.1)))

-- a count in use that rises to at most rounds
counts_keep : (net : Network) → valid_network net ≡ true → (counts : List ℕ) → CountsSound net counts → (k : Kind) (x i : ℕ) → x < used_by net.nodes net.links k → i ≤ net.rounds → CountsSound net (set counts (cell_of (count k x)) i)
counts_keep net v counts kept k x i used most =
    ((λ j y h. set_keeps_at P counts (cell_of (count k x)) i 0 new old (cell_of (count j y)) j y h refl), length-set counts (cell_of (count k x)) i ∙ kept.1)
  where
    P : ℕ → ℕ → Type 0
    P c n = (j : Kind) (y : ℕ) → y < 256 → cell_of (count j y) ≡ c → entry_fits net.rounds (used_by net.nodes net.links j) y n ≡ true

    -- the cell that is set is that of no other count
    new : P (cell_of (count k x)) i
    new j y h e =
        let (same_kind, same_place) = same_cell j k y x h (omega (arith, used_at_most_256 net v k)) e in
        entry_of (λ _. most) (λ past. absurd (omega (arith, ap (used_by net.nodes net.links) same_kind)))

    old : (c : ℕ) → P c (get_or counts c 0)
    old c j y h e =
        subst (λ z. entry_fits net.rounds (used_by net.nodes net.links j) y (get_or counts z 0) ≡ true) e (kept.0 j y h)

-- ---- what an action does besides

-- an entry in use may be anything
rest_keeps : (used n : ℕ) (xs : List ℕ) (i v : ℕ) → RestSound used n xs → i < used → RestSound used n (set xs i v)
rest_keeps used n xs i v kept h =
    (set_keeps_at (λ x m. x < n → past_fits used x m ≡ true) xs i v 0 (λ _. past_of (λ past. absurd (omega arith))) kept.0, length-set xs i v ∙ kept.1)

-- the actions that move a message
on_queue : Does → Bool
on_queue Does.Starts = false
on_queue Does.Counts = false
on_queue Does.SendsPacket = true
on_queue Does.SendsAck = true
on_queue Does.TakesPacket = true
on_queue Does.TakesAck = true
on_queue Does.Means = false

-- they name a link
queue_names_two : (k : Kind) → on_queue (does_of k) ≡ true → body_of k ≡ 2
unfolding on_queue does_of body_of names_of place_of kind_at all_below both if_b
queue_names_two k q =
    eqb-true (body_of k) 2 (sym (if_b_yes (on_queue (does_of k)) (eqb (body_of k) 2) true q) ∙ every_kind (λ j. if_b (on_queue (does_of j)) (eqb (body_of j) 2) true) refl k)

module _ (net : Network) (v : valid_network net ≡ true) (w : Wires) (p d i : ℕ) (s : State) (kept : Kept net s) (there : p < net.nodes) where
  effect_keeps : (does : Does) → (on_queue does ≡ true → d < net.links * 2) → Kept net (effect_in w does p d i s)
  unfolding effect_in on_queue heard_in
  effect_keeps does = at does
    where
      u : Queues
      u = s.queues

      with_queues : (u : Queues) → QueuesSound net.links u → (slots : List ℕ) → RestSound (net.links * 4) 512 slots → Kept net (state_of s.counts u.lens u.sorts u.loads slots s.values)
      with_queues u q slots a = record { counts = kept.counts; queues = q; slots = a; values = kept.values }

      pushes : (sort load : ℕ) → d < net.links * 2 → Message sort → load_fits sort load ≡ true → QueuesSound net.links (pushed u d sort load)
      pushes sort load = pushed_keeps net.links u kept.queues d sort load (valid_limits net v).at_most_128_links

      heard_keeps : (head : Head) → d < net.links * 2 → RestSound (net.links * 4) 512 (heard_in s.slots head d i)
      heard_keeps (Head.Packet load) h = rest_keeps (net.links * 4) 512 s.slots (slot_at d i) load kept.slots (omega arith)
      heard_keeps Head.Ack h = kept.slots
      heard_keeps Head.Empty h = kept.slots

      at : (does : Does) → (on_queue does ≡ true → d < net.links * 2) → Kept net (effect_in w does p d i s)
      at Does.Starts h = kept
      at Does.Counts h = kept
      at Does.SendsPacket h =
          with_queues _ (pushes packet (get_or s.values p 0) (h refl) (a_packet_lem refl) (load_of (λ none. absurd (none refl)))) s.slots kept.slots
      at Does.SendsAck h = with_queues _ (pushes ack 0 (h refl) (an_ack_lem refl) (load_of (λ _. refl))) s.slots kept.slots
      at Does.TakesPacket h =
          with_queues _ (popped_keeps net.links u kept.queues d) _ (heard_keeps (head_of s.queues.lens s.queues.sorts s.queues.loads d) (h refl))
      at Does.TakesAck h = with_queues _ (popped_keeps net.links u kept.queues d) s.slots kept.slots
      at Does.Means h =
          let mean : ℕ = mean_heard w.lanes s.slots (get_or w.neighbours p 0) p (get_or s.values p 0) i in
          record { counts = kept.counts; queues = kept.queues; slots = kept.slots; values = rest_keeps net.nodes 64 s.values p mean kept.values there }

-- ---- an action, one from bytes, a list

module _ (net : Network) (v : valid_network net ≡ true) where
  pub taken_keeps : (s : State) (k : Kind) (p q : ℕ) → valid_state net s ≡ true → Sized s → answer_of net s k p q ≡ 0 → (valid_state net (after_of net s k p q) ≡ true) × Sized (after_of net s k p q)
  unfolding after_in counted wires_of
  taken_keeps s k p q valid sized e = kept_sound net (after_of net s k p q) after
    where
      w : Wires
      w = wires_of net

      n : ℕ
      n = count_in s.counts (own_in w k p q)

      kept : Kept net s
      kept = sound_kept net s (valid, sized)

      t : Taken w s k p q
      t = answer_0_taken w s k p q e

      in_rounds_lem : n + 1 ≤ net.rounds
      in_rounds_lem =
          omega (arith, count_may_rise (starts_round (does_of k)) net.rounds n (count_in s.counts (need_of k p (around_of w p q))) t.counts (every_count net s.counts kept.counts (cell_of (need_of k p (around_of w p q)))))

      risen : CountsSound net (set s.counts (cell_of (own_in w k p q)) (n + 1))
      risen =
          let (x, own, used) = taken_own net v s k p q t in
          subst (λ c. CountsSound net (set s.counts (cell_of c) (n + 1))) (sym own) (counts_keep net v s.counts kept.counts k x (n + 1) used in_rounds_lem)

      after : Kept net (after_of net s k p q)
      after =
          effect_keeps net v w p (lane_in w.lanes p q) (n + 1) (counted w s (own_in w k p q) (n + 1)) (record { counts = risen; queues = kept.queues; slots = kept.slots; values = kept.values }) t.p_below_lem (does_of k) (λ moves. taken_lane net v s k p q t (queue_names_two k moves))

  -- an action on a network and a state that are in range, taken or refused
  pub done_in_keeps : (s : State) (k : Kind) (p q : ℕ) → Sound net s → Sound net (done_in (wires_of net) s k p q).state
  unfolding done_in
  done_in_keeps s k p q h =
      eq_elim (λ r. Sound net r.state) (answer_of net s k p q) 0 (done 0 (after_of net s k p q)) (done (answer_of net s k p q) s) (λ e. taken_keeps s k p q h.0 h.1 e) (λ _. h)

  pub act_in_keeps : (s : State) (bytes : List ℕ) (at : ℕ) → Sound net s → Sound net (act_in (wires_of net) s bytes at).state
  unfolding act_in record_in acted_as
  act_in_keeps s bytes at h = by (read_at bytes at)
    where
      by : (r : Result Act Refusal) → Sound net (record_in (wires_of net) s r).state
      by (Err e) = h
      by (Ok a) =
          eq_elim {A = Acted} (λ r. Sound net r.state) (done_in (wires_of net) s a.kind a.p a.q).answer 0 _ _ (λ _. done_in_keeps s a.kind a.p a.q h) (λ _. done_in_keeps s a.kind a.p a.q h)

  pub list_from_keeps : (turns : ℕ) (s : State) (bytes : List ℕ) (at taken : ℕ) → Sound net s → Sound net (list_from turns (wires_of net) s bytes at taken).state
  unfolding list_from
  list_from_keeps zero s bytes at taken h = h
  list_from_keeps (suc turns) s bytes at taken h =
      lt_elim {A = Ran} (λ r. Sound net r.state) at (length bytes) _ _
      (λ _. eq_elim {A = Ran} (λ r. Sound net r.state) (act_in (wires_of net) s bytes at).answer 0 _ _ (λ _. list_from_keeps turns (act_in (wires_of net) s bytes at).state bytes (at + (act_in (wires_of net) s bytes at).place) (taken + 1) (act_in_keeps s bytes at h)) (λ _. h))
      (λ _. h)

-- the methods, single actions from bytes, and lists: 17 hands the state back as it came
module _ (net : Network) (s : State) (h : Sound net s) where
  valid_there : in_range net s ≡ true → valid_network net ≡ true
  unfolding in_range
  valid_there = both_left (valid_network net) (valid_state net s)

  pub done_of_keeps : (k : Kind) (p q : ℕ) → Sound net (done_of net s k p q).state
  unfolding done_of
  done_of_keeps k p q =
      b_elim {A = Done} (λ r. Sound net r.state) (in_range net s) _ _ (λ v. done_in_keeps net (valid_there v) s k p q h) (λ _. h)

  pub act_keeps : (bytes : List ℕ) → Sound net (act_of net s bytes).state
  unfolding act_of
  act_keeps bytes =
      b_elim {A = Acted} (λ r. Sound net r.state) (in_range net s) _ _ (λ v. act_in_keeps net (valid_there v) s bytes 0 h) (λ _. h)

  pub list_keeps : (bytes : List ℕ) → Sound net (list_of net s bytes).state
  unfolding list_of
  list_keeps bytes =
      b_elim {A = Ran} (λ r. Sound net r.state) (in_range net s) _ _ (λ v. list_from_keeps net (valid_there v) (suc (length bytes)) s bytes 0 0 h) (λ _. h)

-- ---- a refusal hands the state back

pub done_refused : (net : Network) (s : State) (k : Kind) (p q : ℕ) → 0 < (done_of net s k p q).answer → (done_of net s k p q).state ≡ s
unfolding done_of
done_refused net s k p q =
    b_elim {A = Done} (λ r. 0 < r.answer → r.state ≡ s) (in_range net s) _ _ (λ _. refused_done (wires_of net) s k p q) (λ _ _. refl)

pub act_refused : (net : Network) (s : State) (bytes : List ℕ) → 0 < (act_of net s bytes).answer → (act_of net s bytes).state ≡ s
unfolding act_of
act_refused net s bytes =
    b_elim {A = Acted} (λ r. 0 < r.answer → r.state ≡ s) (in_range net s) _ _ (λ _. refused_act (wires_of net) s bytes 0) (λ _ _. refl)

-- ---- the start state

fresh_sized : (values : List ℕ) → length values ≡ 64 → Sized (fresh_with values)
unfolding fresh_with
fresh_sized values e =
    record {
      counts = zeros (length kinds * 256);
      lens = zeros 256;
      sorts = zeros 512;
      loads = zeros 512;
      slots = zeros 512;
      values = e;
    }
  where
    zeros : (n : ℕ) → length {A = ℕ} (replicate n 0) ≡ n
    zeros n = length-replicate n 0

module _ (net : Network) (long : length net.starts ≡ 64) where
  pub start_sized : Sized (start_of net).state
  unfolding start_of
  start_sized =
      b_elim {A = Done} (λ r. Sized r.state) (valid_network net) _ _ (λ _. fresh_sized net.starts long) (λ _. fresh_sized (replicate 64 0) (length-replicate {A = ℕ} 64 0))

  pub start_valid : valid_network net ≡ true → Sound net (start_of net).state
  unfolding start_of fresh_with
  start_valid v =
      b_elim {A = Done} (λ r. Sound net r.state) (valid_network net) _ _ (λ _. (passes_valid net (fresh_with net.starts) fresh, fresh_sized net.starts long)) (λ o. absurd (true_not_false (valid_network net) v o))
    where
      none : (n x : ℕ) → get_or {A = ℕ} (replicate n 0) x 0 ≡ 0
      none n x = repeated_at n 0 x

      fresh : Passes net (fresh_with net.starts)
      fresh =
          record {
            counted = λ k x h. entry_of (λ _. omega (arith, none (length kinds * 256) (cell_of (count k x)))) (λ _. none (length kinds * 256) (cell_of (count k x)));
            queued = record {
              at_most_two = λ d h. entry_of (λ _. omega (arith, none 256 d)) (λ _. none 256 d);
              sort = λ d j h l. sort_of (λ waits. absurd (omega (arith, none 256 d))) (λ _. none 512 (d * 2 + j));
              load = λ e h. load_of (λ _. none 512 e);
            };
            slot = λ x h. past_of (λ _. none 512 x);
            value = λ p h. past_of (λ past. (valid_rest net v).no_start p past h);
          }
