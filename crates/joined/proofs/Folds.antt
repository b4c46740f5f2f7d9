-- What one step of a fold brings about holds at its end, if the steps before it keep what it needs and the steps after it keep what it brings.
-- And five facts on a set with one more node.
-- Assumes nothing.
use Prim.Native.Nat.{ℕ, zero, suc, ◌+◌, ◌^◌, ◌<◌, ◌≤◌}
use native.Mathlib.Nat.{not-suc-le-zero}
use native.Mathlib.Omega.{arith}
use native.Mathlib.Decide.{dec_lt, ℕ_discrete}
use mathlib.Core.Path.{◌≡◌, refl, sym, ◌∙◌, ap, subst}
use mathlib.Core.Logic.{◌⊎◌, inl, inr}
use mathlib.Core.Bool.{true, false}
use Rattle.laws.specs.Choice.{if_b}
use Rattle.laws.specs.Below.{fold_below, count_below}
use Rattle.laws.proofs.Choice.{if_b_yes, if_b_no, lt_elim, b_elim, true_not_false}
use Rattle.laws.proofs.Below.{fold_keeps, sum_but_one}
use Rattle.nodeset.specs.Marks.{member, inserted, size_of}
use Rattle.nodeset.proofs.Marks.{inserted_is_in, inserted_keeps_others, member_below}
use Rattle.nodeset.proofs.Members.{size_inserted}

pub fold_gains : {A : Type 0} (Needs Brings : A → Type 0) (f : ℕ → A → A) (z : A) (n l : ℕ) → l < n → Needs z
    → ((k : ℕ) (x : A) → Needs x → Needs (f k x)) → ((x : A) → Needs x → Brings (f l x)) → ((k : ℕ) (x : A) → Brings x → Brings (f k x))
    → Brings (fold_below f z n)
unfolding fold_below
fold_gains Needs Brings f z zero l h r keeps brings stays = absurd (not-suc-le-zero h)
fold_gains Needs Brings f z (suc n) l h r keeps brings stays =
    at (dec_lt l n) (λ m. fold_gains Needs Brings f z n l m r keeps brings stays)
  where
    at : Dec (l < n) → (l < n → Brings (fold_below f z n)) → Brings (f n (fold_below f z n))
    at (yes m) before = stays n (fold_below f z n) (before m)
    at (no m) before =
        let e : l ≡ n = omega arith in
        subst (λ j. Brings (f j (fold_below f z n))) e (brings (fold_below f z n) (fold_keeps Needs f z n r (λ k _. keeps k)))

-- ---- a set with one more node

pub inserted_keeps : (m k j : ℕ) → member m j ≡ true → member (inserted m k) j ≡ true
inserted_keeps m k j i = at (ℕ_discrete j k)
  where
    at : Dec (j ≡ k) → member (inserted m k) j ≡ true
    at (yes e) = subst (λ x. member (inserted m x) j ≡ true) e (inserted_is_in m j (member_below m j i))
    at (no d) = inserted_keeps_others m k j d ∙ i

pub in_inserted : (m k j : ℕ) → member (inserted m k) j ≡ true → (j ≡ k) ⊎ (member m j ≡ true)
in_inserted m k j i = at (ℕ_discrete j k)
  where
    at : Dec (j ≡ k) → (j ≡ k) ⊎ (member m j ≡ true)
    at (yes e) = inl e
    at (no d) = inr (sym (inserted_keeps_others m k j d) ∙ i)

pub inserted_already : (m k : ℕ) → member m k ≡ true → inserted m k ≡ m
unfolding inserted
inserted_already m k i =
    lt_elim (λ x. x ≡ m) k 64 (if_b (member m k) m (m + 2 ^ k)) m (λ _. b_elim (λ x. x ≡ m) (member m k) m (m + 2 ^ k) (λ _. refl) (λ o. absurd (true_not_false (member m k) i o))) (λ _. refl)

-- it has one more of the numbers below n
pub count_inserted : (m n k : ℕ) → k < n → k < 64 → member m k ≡ false → count_below (member (inserted m k)) n ≡ suc (count_below (member m) n)
unfolding count_below
count_inserted m n k h l o =
    let others = sum_but_one (λ j. if_b (member (inserted m k) j) 1 0) (λ j. if_b (member m j) 1 0) n k h (λ j d. ap (λ t. if_b t 1 0) (inserted_keeps_others m k j d)) in
    omega (arith, others, if_b_yes {A = ℕ} (member (inserted m k) k) 1 0 (inserted_is_in m k l), if_b_no {A = ℕ} (member m k) 1 0 o)

pub size_at_most_one_more : (m k : ℕ) → k < 64 → size_of (inserted m k) ≤ suc (size_of m)
size_at_most_one_more m k h =
    b_elim {A = ℕ} (λ _. size_of (inserted m k) ≤ suc (size_of m)) (member m k) 0 0 (λ i. omega (arith, ap size_of (inserted_already m k i))) (λ o. omega (arith, size_inserted m k h o))
