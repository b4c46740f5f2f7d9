-- The state half of 17 as the promise says it, action by action, and as the code's definitions have it, kind by kind: the two are the same for every
-- network that passes.
-- Assumes nothing.
use Prim.Native.Nat.{ℕ, ◌*◌, ◌<◌, ◌≤◌}
use native.Mathlib.Omega.{arith}
use mathlib.Core.Path.{◌≡◌, refl, sym, ◌∙◌, ap, subst}
use mathlib.Core.Bool.{Bool, true, false}
use lib.ListN.{get_or}
use lib.Dec.{ltb}
use borrow.Author.Tests.{ltb-true, lt-ltb}
use Rattle.laws.specs.Choice.{if_b}
use Rattle.laws.proofs.Choice.{if_b_no}
use Rattle.network.specs.declared.Network.{Network}
use Rattle.network.specs.Valid.{valid_network}
use Rattle.actions.specs.declared.Kind.{Kind}
use Rattle.actions.specs.Kinds.{count, count_in}
use Rattle.actions.specs.Table.{place_of}
use Rattle.ranges.specs.Fits.{used_by}
use Rattle.synchronizer.specs.declared.State.{State}
use Rattle.synchronizer.specs.Valid.{valid_state, StateClauses}
use Rattle.synchronizer.proofs.States.{valid_state_clauses, clauses_valid_state}
use Rattle.automaton.specs.Actions.{Act, body_of}
use Rattle.guarantees.specs.Kinds.{kind_of}
use Rattle.guarantees.specs.Reading.{joins, names_link, direction_of, cell_at, seated, seat_of, count_of}
use Rattle.guarantees.specs.Outcome.{places_of, StateFits}
use Rattle.guarantees.proofs.Bytes.{cell_is}
use Rattle.guarantees.proofs.Directions.{direction_below, direction_of_lem}
use Rattle.guarantees.proofs.Tables.{action_of, place_as, named}
use Rattle.guarantees.proofs.Seats.{place_is, counter_of, seat_of_link, seated_link, seat_of_node, seated_node}
use Rattle.guarantees.proofs.Needs.{count_read}
use Rattle.guarantees.proofs.Whole.{used_is}

-- an action's kind uses as many places as the code's does
places_are : (net : Network) (a : Act) → places_of net a ≡ used_by net.nodes net.links (kind_of a)
unfolding places_of
places_are net a =
    ap (λ w. if_b (names_link w) (net.links * 2) net.nodes) (place_is a) ∙ sym (used_is net.nodes net.links (kind_of a))

module _ (net : Network) (v : valid_network net ≡ true) (s : State) where
  -- an action that has a count has its place among those in use
  seat_used : (a : Act) → seated net a ≡ true → seat_of net a < places_of net a
  unfolding seated seat_of places_of if_b
  seat_used a = at (names_link (body_of a).place)
    where
      at : (t : Bool) → if_b t (joins net (body_of a).p (body_of a).q) (ltb (body_of a).p net.nodes) ≡ true
          → if_b t (direction_of net (body_of a).p (body_of a).q) (body_of a).p < if_b t (net.links * 2) net.nodes
      at true j = direction_below net v (body_of a).p (body_of a).q j
      at false h = ltb-true (body_of a).p net.nodes h

  pub valid_fits : valid_state net s ≡ true → StateFits net s
  unfolding count_of
  valid_fits valid =
      record {
        counts = λ a. count_fits a (seated net a) refl;
        at_most_two = c.queues.at_most_two;
        packet_or_ack = c.queues.packet_or_ack;
        no_count = λ a x used h. ap (λ n. get_or s.counts n 0) (cell_is a x) ∙ c.rest.no_count (kind_of a) x (subst (λ (n : ℕ). n ≤ x) (places_are net a) used) h;
        no_queue = c.rest.no_queue;
        no_sort = c.rest.no_sort;
        no_load = c.rest.no_load;
        no_slot = c.rest.no_slot;
        no_value = c.rest.no_value;
      }
    where
      c : StateClauses net s
      c = valid_state_clauses net v s valid

      count_fits : (a : Act) (t : Bool) → seated net a ≡ t → count_of net s a ≤ net.rounds
      count_fits a true is =
          subst (λ (n : ℕ). n ≤ net.rounds) (sym (count_read net v s a is)) (c.counts.in_rounds_lem (kind_of a) (seat_of net a) (subst (λ (n : ℕ). seat_of net a < n) (places_are net a) (seat_used a is)))
      count_fits a false is = omega (arith, if_b_no (seated net a) (get_or s.counts (cell_at a (seat_of net a)) 0) 0 is)

  pub fits_valid : StateFits net s → valid_state net s ≡ true
  unfolding if_b
  fits_valid f =
      clauses_valid_state net v s
      (record {
        counts = record { in_rounds_lem = in_rounds_lem };
        queues = record { at_most_two = f.at_most_two; packet_or_ack = f.packet_or_ack };
        rest = record {
          no_count = no_count;
          no_queue = f.no_queue;
          no_sort = f.no_sort;
          no_load = f.no_load;
          no_slot = f.no_slot;
          no_value = f.no_value;
        };
      })
    where
      -- through an action whose count this is
      through : (k : Kind) (x : ℕ) (a : Act) → seated net a ≡ true → counter_of net a ≡ count k x → count_in s.counts (count k x) ≤ net.rounds
      through k x a is at =
          subst (λ (n : ℕ). n ≤ net.rounds) (count_read net v s a is ∙ ap (count_in s.counts) at) (f.counts a)

      in_rounds_lem : (k : Kind) (x : ℕ) → x < used_by net.nodes net.links k → count_in s.counts (count k x) ≤ net.rounds
      in_rounds_lem k x used = by (names_link (place_as (place_of k))) refl (rw (used_is net.nodes net.links k) at used)
        where
          by : (b : Bool) → names_link (place_as (place_of k)) ≡ b → x < if_b b (net.links * 2) net.nodes → count_in s.counts (count k x) ≤ net.rounds
          by true e h =
              let (p, q, j, d) = direction_of_lem net v x h in
              through k x (action_of k p q) (seated_link net k p q e ∙ j) (seat_of_link net k p q e ∙ ap (count k) d)
          by false e h = through k x (action_of k x x) (seated_node net k x x e ∙ lt-ltb x net.nodes h) (seat_of_node net k x x e)

      no_count : (k : Kind) (x : ℕ) → used_by net.nodes net.links k ≤ x → x < 256 → count_in s.counts (count k x) ≡ 0
      no_count k x past h =
          let a = action_of k 0 0 in
          let kind : kind_of a ≡ k = (named k 0 0).kind in
          ap (λ j. count_in s.counts (count j x)) (sym kind) ∙ ap (λ n. get_or s.counts n 0) (sym (cell_is a x))
          ∙ f.no_count a x (subst (λ (n : ℕ). n ≤ x) (ap (used_by net.nodes net.links) (sym kind) ∙ sym (places_are net a)) past) h
