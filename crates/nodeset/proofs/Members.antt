-- Sums and tests over the members of a set, one member at a time: what holds of a set holds of one member and of the set without it. A walk
-- over a set takes its lowest member out at each turn, so these are the laws of such a loop.
-- Assumes nothing.
use Prim.Native.Nat.{ℕ, suc, ◌+◌, ◌*◌, ◌<◌, ◌≤◌}
use native.Mathlib.Omega.{arith}
use mathlib.Core.Path.{◌≡◌, refl, sym, ◌∙◌, ap}
use mathlib.Core.Bool.{Bool, true, false}
use native.Mathlib.Decide.{ℕ_discrete}
use lib.ListN.{length}
use Rattle.laws.specs.Choice.{if_b}
use Rattle.laws.specs.Below.{count_below}
use Rattle.laws.proofs.Choice.{if_b_yes, if_b_no, b_elim, same_test, not_true_false, true_not_false}
use Rattle.laws.proofs.Below.{all_at, all_of, sum_but_one, sum_same, sum_at_most, sum_scaled, sum_zero}
use Rattle.laws.specs.Lists.{total}
use Rattle.laws.proofs.Picked.{length_picked, picked_same, total_picked}
use Rattle.nodeset.specs.Marks.{member, inserted, removed, size_of, all_in, sum_in, members_of, values_in}
use Rattle.nodeset.proofs.Marks.{member_below, empty_has_none, inserted_is_in, inserted_keeps_others, removed_is_out, removed_keeps_others}

-- ---- every member

pub all_in_at : (t : ℕ → Bool) (m : ℕ) → all_in t m ≡ true → (k : ℕ) → member m k ≡ true → t k ≡ true
unfolding all_in
all_in_at t m a k e =
    sym (if_b_yes (member m k) (t k) true e) ∙ all_at (λ j. if_b (member m j) (t j) true) 64 a k (member_below m k e)

pub all_in_of : (t : ℕ → Bool) (m : ℕ) → ((k : ℕ) → member m k ≡ true → t k ≡ true) → all_in t m ≡ true
unfolding all_in
all_in_of t m f =
    all_of (λ j. if_b (member m j) (t j) true) 64 (λ k _. b_elim (λ x. x ≡ true) (member m k) (t k) true (f k) (λ _. refl))

pub all_in_empty : (t : ℕ → Bool) → all_in t 0 ≡ true
all_in_empty t = all_in_of t 0 (λ k e. absurd (true_not_false (member 0 k) e (empty_has_none k)))

-- a member that fails the test decides
pub all_in_fails : (t : ℕ → Bool) (m k : ℕ) → member m k ≡ true → t k ≡ false → all_in t m ≡ false
all_in_fails t m k e f = not_true_false (all_in t m) (λ a. true_not_false (t k) (all_in_at t m a k e) f)

-- a member that passes can be taken out
pub all_in_rest : (t : ℕ → Bool) (m k : ℕ) → t k ≡ true → all_in t m ≡ all_in t (removed m k)
all_in_rest t m k p =
    same_test (all_in t m) (all_in t (removed m k)) (λ a. all_in_of t (removed m k) (λ j e. all_in_at t m a j (still_in j e)))
    (λ a. all_in_of t m (λ j e. pass j e (ℕ_discrete j k) a))
  where
    still_in : (j : ℕ) → member (removed m k) j ≡ true → member m j ≡ true
    still_in j e =
        sym (removed_keeps_others m k j (λ q. true_not_false (member (removed m k) j) e (ap (member (removed m k)) q ∙ removed_is_out m k)))
        ∙ e

    pass : (j : ℕ) → member m j ≡ true → Dec (j ≡ k) → all_in t (removed m k) ≡ true → t j ≡ true
    pass j e (yes q) a = ap t q ∙ p
    pass j e (no d) a = all_in_at t (removed m k) a j (removed_keeps_others m k j d ∙ e)

-- ---- sums over the members

pub sum_in_empty : (f : ℕ → ℕ) → sum_in f 0 ≡ 0
unfolding sum_in
sum_in_empty f = sum_zero (λ k. if_b (member 0 k) (f k) 0) 64 (λ k _. if_b_no (member 0 k) (f k) 0 (empty_has_none k))

pub sum_in_same : (f g : ℕ → ℕ) (m : ℕ) → ((k : ℕ) → member m k ≡ true → f k ≡ g k) → sum_in f m ≡ sum_in g m
unfolding sum_in
sum_in_same f g m e =
    sum_same (λ k. if_b (member m k) (f k) 0) (λ k. if_b (member m k) (g k) 0) 64 (λ k _. b_elim (λ x. x ≡ if_b (member m k) (g k) 0) (member m k) (f k) 0 (λ i. e k i ∙ sym (if_b_yes (member m k) (g k) 0 i)) (λ o. sym (if_b_no (member m k) (g k) 0 o)))

-- a member taken out takes its term with it
pub sum_in_rest : (f : ℕ → ℕ) (m k : ℕ) → member m k ≡ true → sum_in f m ≡ f k + sum_in f (removed m k)
unfolding sum_in
sum_in_rest f m k i =
    omega (arith, sum_but_one (term m) (term (removed m k)) 64 k (member_below m k i) (λ j d. ap (λ t. if_b t (f j) 0) (sym (removed_keeps_others m k j d))), if_b_yes (member m k) (f k) 0 i, if_b_no (member (removed m k) k) (f k) 0 (removed_is_out m k))
  where
    term : ℕ → ℕ → ℕ
    term s j = if_b (member s j) (f j) 0

-- ---- the size has one term for each member

pub size_is_sum : (m : ℕ) → size_of m ≡ sum_in (λ _. 1) m
unfolding size_of count_below sum_in
size_is_sum m = refl

pub size_rest : (m k : ℕ) → member m k ≡ true → size_of m ≡ suc (size_of (removed m k))
size_rest m k i = omega (arith, size_is_sum m, size_is_sum (removed m k), sum_in_rest (λ _. 1) m k i)

-- "a set with one more node": exactly one more member
pub size_inserted : (m k : ℕ) → k < 64 → member m k ≡ false → size_of (inserted m k) ≡ suc (size_of m)
unfolding size_of count_below
size_inserted m k h o =
    omega (arith, sum_but_one (λ j. if_b (member (inserted m k) j) 1 0) (λ j. if_b (member m j) 1 0) 64 k h (λ j d. ap (λ t. if_b t 1 0) (inserted_keeps_others m k j d)), if_b_yes {A = ℕ} (member (inserted m k) k) 1 0 (inserted_is_in m k h), if_b_no {A = ℕ} (member m k) 1 0 o)

pub sum_in_at_most : (f : ℕ → ℕ) (c m : ℕ) → ((k : ℕ) → member m k ≡ true → f k ≤ c) → sum_in f m ≤ size_of m * c
unfolding sum_in size_of count_below
sum_in_at_most f c m b =
    sum_scaled (λ k. if_b (member m k) (f k) 0) (λ k. if_b (member m k) 1 0) c 64 (λ k _. term k (member m k) refl)
  where
    term : (k : ℕ) (t : Bool) → member m k ≡ t → if_b (member m k) (f k) 0 ≤ if_b (member m k) 1 0 * c
    term k true i = omega (arith, b k i, if_b_yes (member m k) (f k) 0 i, ap (λ x. x * c) (if_b_yes {A = ℕ} (member m k) 1 0 i))
    term k false o = omega (arith, if_b_no (member m k) (f k) 0 o)

-- ---- the members as a list

-- "its size is a count of them"
pub length_values : {A : Type 0} (f : ℕ → A) (m : ℕ) → length (values_in f m) ≡ size_of m
unfolding values_in members_of size_of
length_values f m = length_picked f (member m) 64

pub total_values : (f : ℕ → ℕ) (m : ℕ) → total (values_in f m) ≡ sum_in f m
unfolding values_in members_of sum_in
total_values f m = total_picked f (member m) 64

pub values_same : {A : Type 0} (f g : ℕ → A) (m : ℕ) → ((k : ℕ) → member m k ≡ true → f k ≡ g k) → values_in f m ≡ values_in g m
unfolding values_in members_of
values_same f g m e = picked_same f g (member m) 64 e

pub size_at_most_64 : (m : ℕ) → size_of m ≤ 64
unfolding size_of count_below
size_at_most_64 m =
    sum_at_most (λ k. if_b (member m k) 1 0) 1 64 (λ k _. b_elim (λ x. x ≤ 1) (member m k) 1 0 (λ _. omega arith) (λ _. omega arith))
