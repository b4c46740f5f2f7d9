-- From the test and the effect to the whole of an action: where the answer is 0, the count at the cell that the test shows and the effect at its
-- direction give the state after; where not, the state stays.
-- Assumes nothing.
use Prim.Native.Nat.{ℕ, ◌+◌, ◌<◌}
use native.Mathlib.Omega.{arith}
use native.Mathlib.Decide.{dec_lt}
use mathlib.Core.Path.{◌≡◌, refl, sym, ◌∙◌, ap, subst}
use mathlib.Core.List.{List}
use lib.ListN.{get_or, set}
use Rattle.laws.proofs.Choice.{if_eq_yes, if_eq_no}
use Rattle.answers.specs.declared.Refusal.{Refusal}
use Rattle.answers.specs.Numbers.{number_of}
use Rattle.actions.specs.declared.Kind.{Kind}
use Rattle.actions.specs.declared.Kind.TheVariants.{Output, PacketSent, PacketDelivered, AckSent, AckDelivered, Ok, SubtreeOkSent, SubtreeOkDelivered, ClusterOk, DownSent, DownDelivered, PreferredSent, PreferredDelivered, UpSent, UpDelivered, ClusterGo, SubtreeGoSent, SubtreeGoDelivered, Go, Input}
use Rattle.actions.specs.declared.Counter.{Counter}
use Rattle.actions.specs.Kinds.{count, cell_of, count_in}
use Rattle.actions.specs.Table.{place_of, own_of, does_of}
use Rattle.synchronizer.specs.declared.State.{State}
use Rattle.synchronizer.specs.Wires.{Wires, lane_in}
use Rattle.synchronizer.specs.Answer.{own_in, answer_in}
use Rattle.synchronizer.specs.After.{effect_in, counted, after_in}
use Rattle.synchronizer.specs.Entry.{done, done_in}
use Rattle.synchronizer.proofs.Answers.{own_is, no_first_node}
use Rattle.synchronizer.proofs.Turns.{some_number}

-- where an effect looks at a direction, the action's own count stands at it
effect_at_own : (k : Kind) (w : Wires) (p lane i : ℕ) (s : State) → effect_in w (does_of k) p (own_of (place_of k) k p lane).1 i s ≡ effect_in w (does_of k) p lane i s
unfolding place_of own_of does_of effect_in
effect_at_own Output w p lane i s = refl
effect_at_own PacketSent w p lane i s = refl
effect_at_own PacketDelivered w p lane i s = refl
effect_at_own AckSent w p lane i s = refl
effect_at_own AckDelivered w p lane i s = refl
effect_at_own Ok w p lane i s = refl
effect_at_own SubtreeOkSent w p lane i s = refl
effect_at_own SubtreeOkDelivered w p lane i s = refl
effect_at_own ClusterOk w p lane i s = refl
effect_at_own DownSent w p lane i s = refl
effect_at_own DownDelivered w p lane i s = refl
effect_at_own PreferredSent w p lane i s = refl
effect_at_own PreferredDelivered w p lane i s = refl
effect_at_own UpSent w p lane i s = refl
effect_at_own UpDelivered w p lane i s = refl
effect_at_own ClusterGo w p lane i s = refl
effect_at_own SubtreeGoSent w p lane i s = refl
effect_at_own SubtreeGoDelivered w p lane i s = refl
effect_at_own Go w p lane i s = refl
effect_at_own Input w p lane i s = refl

module _ (w : Wires) (s : State) (k : Kind) (p q : ℕ) where
  -- an action that is taken has its nodes
  pub taken_node : answer_in w s k p q ≡ 0 → p < w.nodes
  taken_node e = at (dec_lt p w.nodes)
    where
      at : Dec (p < w.nodes) → p < w.nodes
      at (yes h) = h
      at (no h) = absurd (omega (arith, e, no_first_node w s k p q (omega arith)))

  -- the count at the cell that the test shows, then the effect at its direction
  pub after_by : (x i : ℕ) (t : State) → x ≡ (own_in w k p q).1 → i ≡ count_in s.counts (count k x) + 1 → t ≡ effect_in w (does_of k) p x i (record s { counts = set s.counts (cell_of (count k x)) i }) → t ≡ after_in w s k p q
  unfolding after_in counted own_in
  after_by x i t ex ei e =
      e
      ∙ ap (λ y. effect_in w (does_of k) p y i (put (count k y) i)) ex
      ∙ ap (λ c. effect_in w (does_of k) p (own_in w k p q).1 i (put c i)) (own_is w k p q)
      ∙ ap (λ j. effect_in w (does_of k) p (own_in w k p q).1 j (put (own_in w k p q) j)) (ei ∙ ap (λ y. count_in s.counts (count k y) + 1) ex ∙ ap (λ c. count_in s.counts c + 1) (own_is w k p q))
      ∙ effect_at_own k w p (lane_in w.lanes p q) _ _
    where
      put : Counter → ℕ → State
      put c j = record s { counts = set s.counts (cell_of c) j }

  pub done_refused : (e : Refusal) → number_of e ≡ answer_in w s k p q → done (number_of e) s ≡ done_in w s k p q
  unfolding done_in
  done_refused e is =
      ap (λ x. done x s) is ∙ sym (if_eq_no (answer_in w s k p q) 0 (done 0 (after_in w s k p q)) (done (answer_in w s k p q) s) (λ z. omega (arith, is, z, some_number e)))

  pub done_taken : (t : State) → 0 ≡ answer_in w s k p q → t ≡ after_in w s k p q → done 0 t ≡ done_in w s k p q
  unfolding done_in
  done_taken t e a =
      ap (done 0) a ∙ sym (if_eq_yes (answer_in w s k p q) 0 (done 0 (after_in w s k p q)) (done (answer_in w s k p q) s) (sym e))

-- the count that the test shows to be able to rise, at the cell that the code goes to
pub room_for_one : (counts : List ℕ) (k : Kind) (x sub own : ℕ) → sub ≡ x → own ≡ cell_of (count k sub) → count_in counts (count k x) < 65535 → get_or counts own 0 < 65535
room_for_one counts k x sub own s o h =
    subst (λ c. get_or counts c 0 < 65535) (sym (o ∙ ap (λ y. cell_of (count k y)) s)) h
