-- Every action that has a count has one of its own: the code's counter of an action is the one that is read, and two actions with one place in
-- the array are one action.
-- Assumes nothing.
use Prim.Native.Nat.{ℕ, ◌<◌}
use native.Mathlib.Omega.{arith}
use mathlib.Core.Path.{◌≡◌, refl, sym, ◌∙◌, ap, ap₂, subst}
use mathlib.Core.Bool.{Bool, true, false}
use lib.Dec.{ltb}
use borrow.Author.Tests.{ltb-true}
use Rattle.laws.specs.Choice.{if_b}
use Rattle.network.specs.declared.Network.{Network}
use Rattle.network.specs.Valid.{valid_network}
use Rattle.network.proofs.Valid.{valid_limits}
use Rattle.actions.specs.declared.Kind.{Kind}
use Rattle.actions.specs.declared.Place.{Place}
use Rattle.actions.specs.declared.Counter.{Counter}
use Rattle.actions.specs.Kinds.{count, cell_of}
use Rattle.actions.specs.Table.{place_of, own_of}
use Rattle.actions.proofs.Cells.{same_cell}
use Rattle.synchronizer.specs.Wires.{wires_of, lanes_of, lane_in}
use Rattle.synchronizer.specs.Answer.{own_in}
use Rattle.automaton.specs.Actions.{Act, body_of}
use Rattle.guarantees.specs.Kinds.{kind_of}
use Rattle.guarantees.specs.Reading.{joins, direction_of, names_link, seated, seat_of}
use Rattle.guarantees.proofs.Directions.{direction_in_row, one_direction, lane_is}
use Rattle.guarantees.proofs.Tables.{action_of, place_as, named, row_of, body_is}

-- the counter that is read for an action
abbrev pub counter_of : Network → Act → Counter
counter_of net a = count (kind_of a) (seat_of net a)

pub place_is : (a : Act) → (body_of a).place ≡ place_as (place_of (kind_of a))
place_is a = ap (λ b. b.place) (body_is a)

pub second_is : (a : Act) → (body_of a).q ≡ if_b (names_link (body_of a).place) (body_of a).q (body_of a).p
second_is a = ap (λ b. b.q) (body_is a) ∙ ap (λ w. if_b (names_link w) (body_of a).q (body_of a).p) (sym (place_is a))

-- an action's count, by the kind and the numbers that it comes from
module _ (net : Network) (k : Kind) (p q : ℕ) where
  module _ (e : names_link (place_as (place_of k)) ≡ true) where
    pub seat_of_link : counter_of net (action_of k p q) ≡ count k (direction_of net p q)
    unfolding seat_of if_b
    seat_of_link =
        ap₂ count (named k p q).kind
        (ap (λ b. if_b (names_link b.place) (direction_of net b.p b.q) b.p) (named k p q).body ∙ ap (λ t. if_b t (direction_of net p (if_b t q p)) p) e)

    pub seated_link : seated net (action_of k p q) ≡ joins net p q
    unfolding seated if_b
    seated_link =
        ap (λ b. if_b (names_link b.place) (joins net b.p b.q) (ltb b.p net.nodes)) (named k p q).body
        ∙ ap (λ t. if_b t (joins net p (if_b t q p)) (ltb p net.nodes)) e

  module _ (e : names_link (place_as (place_of k)) ≡ false) where
    pub seat_of_node : counter_of net (action_of k p q) ≡ count k p
    unfolding seat_of if_b
    seat_of_node =
        ap₂ count (named k p q).kind
        (ap (λ b. if_b (names_link b.place) (direction_of net b.p b.q) b.p) (named k p q).body ∙ ap (λ t. if_b t (direction_of net p (if_b t q p)) p) e)

    pub seated_node : seated net (action_of k p q) ≡ ltb p net.nodes
    unfolding seated if_b
    seated_node =
        ap (λ b. if_b (names_link b.place) (joins net b.p b.q) (ltb b.p net.nodes)) (named k p q).body
        ∙ ap (λ t. if_b t (joins net p (if_b t q p)) (ltb p net.nodes)) e

module _ (net : Network) (v : valid_network net ≡ true) where
  pub seat_in_row : (a : Act) → seated net a ≡ true → seat_of net a < 256
  unfolding seated seat_of if_b
  seat_in_row a = at (names_link (body_of a).place)
    where
      at : (t : Bool) → if_b t (joins net (body_of a).p (body_of a).q) (ltb (body_of a).p net.nodes) ≡ true → if_b t (direction_of net (body_of a).p (body_of a).q) (body_of a).p < 256
      at true j = direction_in_row net v (body_of a).p (body_of a).q j
      at false h = omega (arith, ltb-true (body_of a).p net.nodes h, (valid_limits net v).at_most_64_nodes)

  -- the code counts an action where it is read
  pub own_is : (a : Act) → seated net a ≡ true → own_in (wires_of net) (kind_of a) (body_of a).p (body_of a).q ≡ counter_of net a
  unfolding seated seat_of own_in wires_of place_as names_link own_of if_b
  own_is a s =
      at (place_of (kind_of a)) (subst (λ w. if_b (names_link w) (joins net p q) (ltb p net.nodes) ≡ true) (place_is a) s)
      ∙ ap (λ w. count (kind_of a) (if_b (names_link w) (direction_of net p q) p)) (sym (place_is a))
    where
      p : ℕ
      p = (body_of a).p

      q : ℕ
      q = (body_of a).q

      at : (w : Place) → if_b (names_link (place_as w)) (joins net p q) (ltb p net.nodes) ≡ true
          → own_of w (kind_of a) p (lane_in (lanes_of net.lowers net.uppers net.links) p q) ≡ count (kind_of a) (if_b (names_link (place_as w)) (direction_of net p q) p)
      at Place.Node j = refl
      at Place.Link j = ap (count (kind_of a)) (lane_is net v p q j)
      at Place.PreferredLink j = ap (count (kind_of a)) (lane_is net v p q j)
      at Place.Child j = refl
      at Place.Root j = refl

  -- two actions with one place in the array are one action
  pub same_seat : (a b : Act) → seated net a ≡ true → seated net b ≡ true → cell_of (counter_of net a) ≡ cell_of (counter_of net b) → a ≡ b
  unfolding seated seat_of if_b
  same_seat a b sa sb e =
      sym (row_of a).rebuilt ∙ (λ i. action_of (both_same.0 i) (numbers.0 i) (numbers.1 i)) ∙ (row_of b).rebuilt
    where
      both_same : (kind_of a ≡ kind_of b) × (seat_of net a ≡ seat_of net b)
      both_same = same_cell (kind_of a) (kind_of b) (seat_of net a) (seat_of net b) (seat_in_row a sa) (seat_in_row b sb) e

      place : (body_of b).place ≡ (body_of a).place
      place = place_is b ∙ ap (λ k. place_as (place_of k)) (sym both_same.0) ∙ sym (place_is a)

      at : (t : Bool) (p q p' q' : ℕ) → if_b t (joins net p q) (ltb p net.nodes) ≡ true → if_b t (joins net p' q') (ltb p' net.nodes) ≡ true
          → if_b t (direction_of net p q) p ≡ if_b t (direction_of net p' q') p' → q ≡ if_b t q p → q' ≡ if_b t q' p' → (p ≡ p') × (q ≡ q')
      at true p q p' q' j j' d _ _ = one_direction net v p q p' q' j j' d
      at false p q p' q' _ _ d s s' = (d, s ∙ d ∙ sym s')

      numbers : ((body_of a).p ≡ (body_of b).p) × ((body_of a).q ≡ (body_of b).q)
      numbers =
          at (names_link (body_of a).place) (body_of a).p (body_of a).q (body_of b).p (body_of b).q sa (rw place at sb)
          (both_same.1 ∙ ap (λ w. if_b (names_link w) (direction_of net (body_of b).p (body_of b).q) (body_of b).p) place) (second_is a) (rw place at (second_is b))
