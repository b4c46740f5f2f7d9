-- The state half of answer 17: the test passes exactly where every clause of document 01 holds. Between the two stands the test entry by entry,
-- `Passes`, which is also what an action is shown to keep (`Keeps.antt`).
-- Assumes nothing.
use Prim.Native.Nat.{ℕ, zero, suc, ◌+◌, ◌*◌, ◌/◌, ◌%◌, ◌<◌, ◌≤◌}
use native.Mathlib.Nat.{add-zero}
use native.Mathlib.Omega.{arith}
use native.Mathlib.Decide.{dec_lt}
use mathlib.Core.Path.{◌≡◌, refl, sym, ◌∙◌, subst}
use mathlib.Core.Bool.{true}
use mathlib.Core.Logic.{◌⊎◌, inl, inr}
use lib.Dec.{leb, eqb}
use lib.ListN.{length, get_or}
use borrow.Author.Tests.{leb-true, le-leb, eqb-true, eq-eqb}
use Rattle.laws.specs.Choice.{if_lt, if_eq, both}
use Rattle.laws.specs.Below.{all_below}
use Rattle.laws.proofs.Choice.{if_lt_yes, if_lt_no, if_eq_yes, if_eq_no, lt_elim, eq_elim, both_yes, both_left, both_right}
use Rattle.laws.proofs.Below.{all_at, all_of}
use Rattle.network.specs.declared.Network.{Network}
use Rattle.network.specs.Valid.{valid_network}
use Rattle.network.proofs.Valid.{valid_limits}
use Rattle.actions.specs.declared.Kind.{Kind}
use Rattle.actions.specs.Kinds.{kinds, index_of, kind_at, count, count_in}
use Rattle.actions.specs.Records.{body_of}
use Rattle.actions.proofs.Numbers.{seated}
use Rattle.queue.specs.declared.Queues.{Queues}
use Rattle.queue.specs.Queue.{packet, ack}
use Rattle.ranges.specs.Fits.{used_by, entry_fits, row_fits, counts_fit, lengths_fit, sort_fits, sorts_fit, load_fits, loads_fit, past_fits, rest_fits, state_fits}
use Rattle.synchronizer.specs.declared.State.{State}
use Rattle.synchronizer.specs.Valid.{valid_state, StateClauses}

-- ---- the tests of one entry, and what each says

pub entry_in : {most used x n : ℕ} → entry_fits most used x n ≡ true → x < used → n ≤ most
unfolding entry_fits
entry_in {most} {used} {x} {n} e h = omega (arith, leb-true n (if_lt x used most 0) e, if_lt_yes x used most 0 h)

pub entry_out : (most : ℕ) {used x n : ℕ} → entry_fits most used x n ≡ true → used ≤ x → n ≡ 0
unfolding entry_fits
entry_out most {used} {x} {n} e h = omega (arith, leb-true n (if_lt x used most 0) e, if_lt_no x used most 0 h)

pub entry_most : (most used x : ℕ) {n : ℕ} → entry_fits most used x n ≡ true → n ≤ most
unfolding entry_fits
entry_most most used x {n} e =
    lt_elim (λ m. n ≤ m → n ≤ most) x used most 0 (λ _ h. h) (λ _ h. omega arith) (leb-true n (if_lt x used most 0) e)

pub entry_of : {most used x n : ℕ} → (x < used → n ≤ most) → (used ≤ x → n ≡ 0) → entry_fits most used x n ≡ true
unfolding entry_fits
entry_of {most} {used} {x} {n} f g =
    lt_elim (λ m. leb n m ≡ true) x used most 0 (λ h. le-leb n most (f h)) (λ h. le-leb n 0 (omega (arith, g h)))

pub past_out : {used x n : ℕ} → past_fits used x n ≡ true → used ≤ x → n ≡ 0
unfolding past_fits
past_out {used} {x} {n} e h = eqb-true n 0 (sym (if_lt_no x used true (eqb n 0) h) ∙ e)

pub past_of : {used x n : ℕ} → (used ≤ x → n ≡ 0) → past_fits used x n ≡ true
unfolding past_fits
past_of {used} {x} {n} f = lt_elim (λ t. t ≡ true) x used true (eqb n 0) (λ _. refl) (λ h. eq-eqb n 0 (f h))

-- what may wait: a packet or an ack
pub data Message (sort : ℕ) : Type 0 where
  a_packet_lem : sort ≡ packet → Message sort
  an_ack_lem : sort ≡ ack → Message sort

pub sort_in : {len j sort : ℕ} → sort_fits len j sort ≡ true → j < len → Message sort
unfolding sort_fits
sort_in {len} {j} {sort} e h =
    eq_elim (λ t. t ≡ true → Message sort) sort packet true (eqb sort ack) (λ p _. a_packet_lem p) (λ _ z. an_ack_lem (eqb-true sort ack z)) (sym (if_lt_yes j len _ _ h) ∙ e)

pub sort_out : {len j sort : ℕ} → sort_fits len j sort ≡ true → len ≤ j → sort ≡ 0
unfolding sort_fits
sort_out {len} {j} {sort} e h = eqb-true sort 0 (sym (if_lt_no j len _ _ h) ∙ e)

pub sort_of : {len j sort : ℕ} → (j < len → Message sort) → (len ≤ j → sort ≡ 0) → sort_fits len j sort ≡ true
unfolding sort_fits
sort_of {len} {j} {sort} f g = lt_elim (λ t. t ≡ true) j len _ _ (λ h. waits (f h)) (λ h. eq-eqb sort 0 (g h))
  where
    waits : Message sort → if_eq sort packet true (eqb sort ack) ≡ true
    waits (a_packet_lem p) = if_eq_yes sort packet true _ p
    waits (an_ack_lem p) = if_eq_no sort packet true _ (λ q. omega arith) ∙ eq-eqb sort ack p

pub load_out : {sort load : ℕ} → load_fits sort load ≡ true → (sort ≡ packet → ⊥) → load ≡ 0
unfolding load_fits
load_out {sort} {load} e h = eqb-true load 0 (sym (if_eq_no sort packet true (eqb load 0) h) ∙ e)

pub load_of : {sort load : ℕ} → ((sort ≡ packet → ⊥) → load ≡ 0) → load_fits sort load ≡ true
unfolding load_fits
load_of {sort} {load} f = eq_elim (λ t. t ≡ true) sort packet true (eqb load 0) (λ _. refl) (λ h. eq-eqb load 0 (f h))

-- ---- the whole test, entry by entry

pub record QueuesPass (links : ℕ) (u : Queues) : Type 0 where
  pub at_most_two : (d : ℕ) → d < 256 → entry_fits 2 (links * 2) d (get_or u.lens d 0) ≡ true
  pub sort : (d j : ℕ) → d < 256 → j < 2 → sort_fits (get_or u.lens d 0) j (get_or u.sorts (d * 2 + j) 0) ≡ true
  pub load : (e : ℕ) → e < 512 → load_fits (get_or u.sorts e 0) (get_or u.loads e 0) ≡ true

pub record Passes (net : Network) (s : State) : Type 0 where
  pub counted : (k : Kind) (x : ℕ) → x < 256 → entry_fits net.rounds (used_by net.nodes net.links k) x (count_in s.counts (count k x)) ≡ true
  pub queued : QueuesPass net.links s.queues
  pub slot : (x : ℕ) → x < 512 → past_fits (net.links * 4) x (get_or s.slots x 0) ≡ true
  pub value : (p : ℕ) → p < 64 → past_fits net.nodes p (get_or s.values p 0) ≡ true

module _ (net : Network) (s : State) where
  parts : valid_state net s ≡ true
      → (counts_fit net.nodes net.links net.rounds s.counts ≡ true)
      × (lengths_fit net.links s.queues.lens ≡ true)
      × (sorts_fit s.queues.lens s.queues.sorts ≡ true)
      × (loads_fit s.queues.sorts s.queues.loads ≡ true)
      × (rest_fits (net.links * 4) s.slots 512 ≡ true)
      × (rest_fits net.nodes s.values 64 ≡ true)
  unfolding valid_state state_fits
  parts v =
      let a = both_right _ _ v in
      let b = both_right _ _ a in
      let c = both_right _ _ b in
      let d = both_right _ _ c in
      (both_left _ _ v, both_left _ _ a, both_left _ _ b, both_left _ _ c, both_left _ _ d, both_right _ _ d)

  pub valid_passes : valid_state net s ≡ true → Passes net s
  unfolding counts_fit row_fits lengths_fit sorts_fit loads_fit rest_fits
  valid_passes v =
      let (counts, lens, sorts, loads, slots, values) = parts v in
      record {
        counted = λ k x h. at_kind counts k x h;
        queued = record {
          at_most_two = λ d h. all_at _ 256 lens d h;
          sort = λ d j h l. place d j l (all_at _ 256 sorts d h);
          load = λ e h. all_at _ 512 loads e h;
        };
        slot = λ x h. all_at _ 512 slots x h;
        value = λ p h. all_at _ 64 values p h;
      }
    where
      row : all_below (λ i. row_fits net.rounds (used_by net.nodes net.links (kind_at i)) s.counts (kind_at i)) (length kinds) ≡ true → (k : Kind) → row_fits net.rounds (used_by net.nodes net.links k) s.counts k ≡ true
      row a k =
          subst (λ j. row_fits net.rounds (used_by net.nodes net.links j) s.counts j ≡ true) (seated k).1 (all_at _ (length kinds) a (index_of k) (seated k).0)

      at_kind : all_below (λ i. row_fits net.rounds (used_by net.nodes net.links (kind_at i)) s.counts (kind_at i)) (length kinds) ≡ true → (k : Kind) (x : ℕ) → x < 256 → entry_fits net.rounds (used_by net.nodes net.links k) x (count_in s.counts (count k x)) ≡ true
      at_kind a k x h = all_at _ 256 (row a k) x h

      place : (d j : ℕ) → j < 2 → both (sort_fits (get_or s.queues.lens d 0) 0 (get_or s.queues.sorts (d * 2) 0)) (sort_fits (get_or s.queues.lens d 0) 1 (get_or s.queues.sorts (d * 2 + 1) 0)) ≡ true → sort_fits (get_or s.queues.lens d 0) j (get_or s.queues.sorts (d * 2 + j) 0) ≡ true
      place d zero l c = rw (add-zero (d * 2)) (both_left _ _ c)
      place d (suc zero) l c = both_right _ _ c
      place d (suc (suc j)) l c = absurd (omega arith)

  pub passes_valid : Passes net s → valid_state net s ≡ true
  unfolding valid_state state_fits counts_fit row_fits lengths_fit sorts_fit loads_fit rest_fits
  passes_valid a =
      both_yes _ _ (all_of _ (length kinds) (λ i _. all_of _ 256 (λ x h. a.counted (kind_at i) x h)))
      (both_yes _ _ (all_of _ 256 a.queued.at_most_two)
      (both_yes _ _ (all_of _ 256 (λ d h. both_yes _ _ (rw (add-zero (d * 2)) at (a.queued.sort d 0 h (omega arith))) (a.queued.sort d 1 h (omega arith))))
      (both_yes _ _ (all_of _ 512 a.queued.load) (both_yes _ _ (all_of _ 512 a.slot) (all_of _ 64 a.value)))))

-- ---- the test says the clauses, and the clauses the test

module _ (net : Network) (n : valid_network net ≡ true) where
  -- the counts in use stand in the row
  pub used_at_most_256 : (k : Kind) → used_by net.nodes net.links k ≤ 256
  unfolding used_by
  used_at_most_256 k =
      eq_elim (λ u. u ≤ 256) (body_of k) 1 net.nodes (net.links * 2) (λ _. omega (arith, (valid_limits net n).at_most_64_nodes)) (λ _. omega (arith, (valid_limits net n).at_most_128_links))

  pub valid_state_clauses : (s : State) → valid_state net s ≡ true → StateClauses net s
  valid_state_clauses s v =
      let a = valid_passes net s v in
      let q = a.queued in
      let most = (valid_limits net n).at_most_128_links in
      record {
        counts = record { in_rounds_lem = λ k x h. entry_in (a.counted k x (omega (arith, used_at_most_256 k))) h };
        queues = record {
          at_most_two = λ d h. entry_in (q.at_most_two d (omega arith)) h;
          packet_or_ack = λ d j h l. let two : j < 2 = omega (arith, entry_in (q.at_most_two d (omega arith)) h) in either (sort_in (q.sort d j (omega arith) two) l) (load_out (q.load (d * 2 + j) (omega arith)));
        };
        rest = record {
          no_count = λ k x h b. entry_out net.rounds (a.counted k x b) h;
          no_queue = λ d h b. entry_out 2 (q.at_most_two d b) h;
          no_sort = λ d j b h l. sort_out (q.sort d j b l) h;
          no_load = λ d j b h l. load_out (q.load (d * 2 + j) (omega arith)) (λ p. omega (arith, sort_out (q.sort d j b l) h));
          no_slot = λ d j h b l. past_out (a.slot (d * 2 + j) (omega arith)) (omega arith);
          no_value = λ p h b. past_out (a.value p b) h;
        };
      }
    where
      either : {sort load : ℕ} → Message sort → ((sort ≡ packet → ⊥) → load ≡ 0) → (sort ≡ packet) ⊎ ((sort ≡ ack) × (load ≡ 0))
      either (a_packet_lem p) f = inl p
      either (an_ack_lem p) f = inr (p, f (λ q. omega arith))

  module _ (s : State) (c : StateClauses net s) where
    -- past the link count a queue is empty, so a message that waits is on a direction of a link
    waiting : (d j : ℕ) → d < 256 → j < get_or s.queues.lens d 0 → (get_or s.queues.sorts (d * 2 + j) 0 ≡ packet) ⊎ ((get_or s.queues.sorts (d * 2 + j) 0 ≡ ack) × (get_or s.queues.loads (d * 2 + j) 0 ≡ 0))
    waiting d j h l = at (dec_lt d (net.links * 2))
      where
        at : Dec (d < net.links * 2) → (get_or s.queues.sorts (d * 2 + j) 0 ≡ packet) ⊎ ((get_or s.queues.sorts (d * 2 + j) 0 ≡ ack) × (get_or s.queues.loads (d * 2 + j) 0 ≡ 0))
        at (yes b) = c.queues.packet_or_ack d j b l
        at (no b) = absurd (omega (arith, c.rest.no_queue d (omega arith) h))

    load_beside_packet : (d j : ℕ) → d < 256 → j < 2 → (get_or s.queues.sorts (d * 2 + j) 0 ≡ packet → ⊥) → get_or s.queues.loads (d * 2 + j) 0 ≡ 0
    load_beside_packet d j h l none = at (dec_lt j (get_or s.queues.lens d 0))
      where
        value : (get_or s.queues.sorts (d * 2 + j) 0 ≡ packet) ⊎ ((get_or s.queues.sorts (d * 2 + j) 0 ≡ ack) × (get_or s.queues.loads (d * 2 + j) 0 ≡ 0)) → get_or s.queues.loads (d * 2 + j) 0 ≡ 0
        value (inl p) = absurd (none p)
        value (inr p) = p.1

        at : Dec (j < get_or s.queues.lens d 0) → get_or s.queues.loads (d * 2 + j) 0 ≡ 0
        at (yes b) = value (waiting d j h b)
        at (no b) = c.rest.no_load d j h (omega arith) l

    pub clauses_valid_state : valid_state net s ≡ true
    clauses_valid_state =
        passes_valid net s
        (record {
          counted = λ k x h. entry_of (c.counts.in_rounds_lem k x) (λ l. c.rest.no_count k x l h);
          queued = record {
            at_most_two = λ d h. entry_of (c.queues.at_most_two d) (λ l. c.rest.no_queue d l h);
            sort = λ d j h l. sort_of (λ b. message (waiting d j h b)) (λ b. c.rest.no_sort d j h b l);
            load = λ e h. load_of (by_halves e (λ x. (get_or s.queues.sorts x 0 ≡ packet → ⊥) → get_or s.queues.loads x 0 ≡ 0) (load_beside_packet (e / 2) (e % 2) (omega arith) (omega arith)));
          };
          slot = λ x h. past_of (λ l. by_halves x (λ i. get_or s.slots i 0 ≡ 0) (c.rest.no_slot (x / 2) (x % 2) (omega arith) (omega arith) (omega arith)));
          value = λ p h. past_of (λ l. c.rest.no_value p l h);
        })
      where
        message : {sort load : ℕ} → (sort ≡ packet) ⊎ ((sort ≡ ack) × (load ≡ 0)) → Message sort
        message (inl p) = a_packet_lem p
        message (inr p) = an_ack_lem p.0

        -- an entry of an array of two places a direction is that of a direction and a place
        by_halves : (e : ℕ) (P : ℕ → Type 0) → P (e / 2 * 2 + e % 2) → P e
        by_halves e P =
            let whole : e / 2 * 2 + e % 2 ≡ e = omega arith in
            subst P whole
