-- The start state is read as the automaton's, and the lockstep table as the automaton's lockstep run.
-- Assumes nothing.
use Prim.Native.Nat.{ℕ, zero, suc, ◌+◌, ◌*◌, ◌<◌}
use native.Mathlib.Omega.{arith}
use mathlib.Core.Path.{◌≡◌, refl, sym, ◌∙◌, ap, ap₂}
use mathlib.Core.Bool.{Bool, true}
use mathlib.Core.List.{[], map}
use lib.ListN.{length, get_or, replicate}
use Rattle.laws.specs.Choice.{if_b}
use Rattle.laws.specs.Below.{list_below}
use Rattle.laws.proofs.Choice.{b_elim, lt_elim, if_b_yes}
use Rattle.nodeset.specs.Marks.{values_in}
use Rattle.nodeset.proofs.Members.{values_same}
use Rattle.network.specs.declared.Network.{Network}
use Rattle.network.specs.Valid.{valid_network}
use Rattle.network.proofs.Valid.{valid_limits}
use Rattle.laws.specs.Mean.{rule_of}
use Rattle.lockstep.specs.Rounds.{next_by, lockstep_of}
use Rattle.lockstep.proofs.Rounds.{lockstep_start, rounds_at}
use Rattle.synchronizer.specs.declared.Done.{Done}
use Rattle.synchronizer.specs.Start.{fresh_with, start_of}
use Rattle.laws.proofs.Entries.{repeated_at}
use Rattle.automaton.specs.Global.{begin}
use Rattle.automaton.specs.Lockstep.{lockstep}
use Rattle.guarantees.specs.Reading.{cell_at, seat_of, joins, direction_of, net_of, seated, count_of, waiting_in, read}
use Rattle.guarantees.proofs.Links.{nodes_below, neighbour_is, neighbours_are}
use Rattle.guarantees.proofs.After.{same_global}

-- a test with 0 on both sides
none : {A : Type 0} (x z : A) → x ≡ z → (t : Bool) → if_b t x z ≡ z
none x z e t = b_elim (λ y. y ≡ z) t x z (λ _. e) (λ _. refl)

module _ (net : Network) (v : valid_network net ≡ true) where
  fresh_is : read net (fresh_with net.starts) ≡ begin (net_of net)
  unfolding read begin net_of fresh_with count_of waiting_in list_below
  fresh_is =
      same_global (read net (fresh_with net.starts)) (begin (net_of net)) (λ b. none _ 0 (zeros 5120 (cell_at b (seat_of net b))) (seated net b))
      (λ p q. none _ [] (ap (list_below _) (zeros 256 (direction_of net p q))) (joins net p q))
      (λ p q h. none _ 0 (lt_elim (λ y. y ≡ 0) h 2 _ 0 (λ _. zeros 512 (direction_of net p q * 2 + h)) (λ _. refl)) (joins net p q))
      (λ p. refl)
    where
      zeros : (n x : ℕ) → get_or {A = ℕ} (replicate n 0) x 0 ≡ 0
      zeros n x = repeated_at {A = ℕ} n 0 x

  pub start_is : read net (start_of net).state ≡ begin (net_of net)
  unfolding start_of
  start_is = ap (λ (d : Done). read net d.state) (if_b_yes (valid_network net) _ _ v) ∙ fresh_is

  -- a node's entry of the table of k rounds
  pub lockstep_is : length net.starts ≡ 64 → (k p : ℕ) → p < net.nodes → get_or (lockstep_of net k) p 0 ≡ lockstep (net_of net) k p
  unfolding lockstep lockstep_of net_of next_by values_in
  lockstep_is long zero p h = ap (λ l. get_or l p 0) (lockstep_start net)
  lockstep_is long (suc k) p h =
      rounds_at rule_of net.neighbours net.nodes net.starts k p h (omega (arith, (valid_limits net v).at_most_64_nodes))
      ∙ ap₂ rule_of (lockstep_is long k p h)
      (values_same (λ q. get_or (lockstep_of net k) q 0) (lockstep (net_of net) k) (get_or net.neighbours p 0) (λ q m. lockstep_is long k q (nodes_below net v p q (sym (neighbour_is net v p q h) ∙ m)).1)
      ∙ ap (map (lockstep (net_of net) k)) (sym (neighbours_are net v p h)))
