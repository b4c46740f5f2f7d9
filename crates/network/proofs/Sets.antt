-- What the derived sets say of the lists. A node is in p's neighbour set exactly where some link has these two ends, in the preferred set where a
-- preferred one has, and among p's children exactly where it is another node that names p as parent.
-- Assumes nothing.
use Prim.Native.Nat.{ℕ, zero, suc, ◌^◌, ◌<◌, ◌≤◌}
use native.Mathlib.Nat.{le_refl, not-suc-le-zero}
use native.Mathlib.Omega.{arith}
use native.Mathlib.Decide.{ℕ_discrete, dec_lt}
use mathlib.Core.Path.{◌≡◌, refl, sym, ◌∙◌, ap, subst}
use mathlib.Core.Bool.{true}
use mathlib.Core.List.{List}
use mathlib.Core.Logic.{◌⊎◌, inl, inr}
use lib.ListN.{get_or}
use Rattle.laws.specs.Choice.{if_lt, if_eq}
use Rattle.laws.specs.Below.{fold_below}
use Rattle.laws.proofs.Choice.{lt_elim, eq_elim, if_lt_no, if_eq_yes, if_eq_no, true_not_false}
use Rattle.laws.proofs.Below.{fold_keeps}
use Rattle.nodeset.specs.Marks.{member, inserted}
use Rattle.nodeset.proofs.Marks.{empty_has_none, inserted_is_in, inserted_keeps_others, inserted_fits, member_below}
use Rattle.network.specs.Sets.{towards, link_gives, link_set, child_set, Ends, rising, falling}

-- ---- one more member

-- what is in p's set after x's set got q: what was in it, and q where p is x
pub in_towards : (x q p s k : ℕ) → member (towards x q p s) k ≡ true → (member s k ≡ true) ⊎ ((x ≡ p) × (k ≡ q))
unfolding towards
in_towards x q p s k =
    eq_elim (λ r. member r k ≡ true → (member s k ≡ true) ⊎ ((x ≡ p) × (k ≡ q))) x p (inserted s q) s (λ e i. at e i (ℕ_discrete k q)) (λ _ i. inl i)
  where
    at : x ≡ p → member (inserted s q) k ≡ true → Dec (k ≡ q) → (member s k ≡ true) ⊎ ((x ≡ p) × (k ≡ q))
    at e i (yes d) = inr (e, d)
    at e i (no d) = inl (sym (inserted_keeps_others s q k d) ∙ i)

pub towards_keeps : (x q p s k : ℕ) → member s k ≡ true → member (towards x q p s) k ≡ true
unfolding towards
towards_keeps x q p s k i = eq_elim (λ r. member r k ≡ true) x p (inserted s q) s (λ _. at (ℕ_discrete k q)) (λ _. i)
  where
    at : Dec (k ≡ q) → member (inserted s q) k ≡ true
    at (yes d) = subst (λ j. member (inserted s j) k ≡ true) d (inserted_is_in s k (member_below s k i))
    at (no d) = inserted_keeps_others s q k d ∙ i

pub towards_adds : (x q p s : ℕ) → x ≡ p → q < 64 → member (towards x q p s) q ≡ true
unfolding towards
towards_adds x q p s e h = subst (λ r. member r q ≡ true) (sym (if_eq_yes x p (inserted s q) s e)) (inserted_is_in s q h)

pub towards_fits : (x q p s : ℕ) → s < 2 ^ 64 → towards x q p s < 2 ^ 64
unfolding towards
towards_fits x q p s f = eq_elim (λ r. r < 2 ^ 64) x p (inserted s q) s (λ _. inserted_fits s q f) (λ _. f)

-- ---- a set gathered over the first n entries of a list: each entry gives what it gives, and keeps what was there

-- what a fold of sets holds comes from one of its steps
gathered_from : (step : ℕ → ℕ → ℕ) (Gives : ℕ → ℕ → Type 0) → ((i s k : ℕ) → member (step i s) k ≡ true → (member s k ≡ true) ⊎ Gives i k)
    → (n k : ℕ) → member (fold_below step 0 n) k ≡ true → (i : ℕ) × (i < n) × Gives i k
unfolding fold_below
gathered_from step Gives f zero k m = absurd (true_not_false (member 0 k) m (empty_has_none k))
gathered_from step Gives f (suc n) k m =
    at (f n (fold_below step 0 n) k m) (gathered_from step Gives f n k)
  where
    at : (member (fold_below step 0 n) k ≡ true) ⊎ Gives n k → (member (fold_below step 0 n) k ≡ true → (i : ℕ) × (i < n) × Gives i k) → (i : ℕ) × (i < suc n) × Gives i k
    at (inl m') r = let (i, h, g) = r m' in (i, omega arith, g)
    at (inr g) r = (n, le_refl (suc n), g)

-- what a step gives stays
gathered_to : (step : ℕ → ℕ → ℕ) → ((i s k : ℕ) → member s k ≡ true → member (step i s) k ≡ true)
    → (n i k : ℕ) → i < n → ((s : ℕ) → member (step i s) k ≡ true) → member (fold_below step 0 n) k ≡ true
unfolding fold_below
gathered_to step keeps zero i k h g = absurd (not-suc-le-zero h)
gathered_to step keeps (suc n) i k h g = at (dec_lt i n) (λ l. gathered_to step keeps n i k l g)
  where
    at : Dec (i < n) → (i < n → member (fold_below step 0 n) k ≡ true) → member (step n (fold_below step 0 n)) k ≡ true
    at (yes l) r = keeps n (fold_below step 0 n) k (r l)
    at (no l) r =
        let e : i ≡ n = omega arith in
        subst (λ j. member (step j (fold_below step 0 n)) k ≡ true) e (g (fold_below step 0 n))

-- ---- neighbours and preferred neighbours

module _ (lowers uppers flags : List ℕ) (least : ℕ) where
  pub link_set_from : (n p q : ℕ) → member (link_set lowers uppers flags least n p) q ≡ true
      → (l : ℕ) × (l < n) × ((least ≤ get_or flags l 0) × Ends lowers uppers l p q)
  unfolding link_set link_gives
  link_set_from n p q m =
      gathered_from (λ l s. if_lt (get_or flags l 0) least s (link_gives (get_or lowers l 0) (get_or uppers l 0) p s)) (λ l k. (least ≤ get_or flags l 0) × Ends lowers uppers l p k) gives n q m
    where
      ends : (l s k : ℕ) → (member (towards (get_or lowers l 0) (get_or uppers l 0) p s) k ≡ true) ⊎ ((get_or uppers l 0 ≡ p) × (k ≡ get_or lowers l 0)) → (member s k ≡ true) ⊎ Ends lowers uppers l p k
      ends l s k (inl i) = up (in_towards (get_or lowers l 0) (get_or uppers l 0) p s k i)
        where
          up : (member s k ≡ true) ⊎ ((get_or lowers l 0 ≡ p) × (k ≡ get_or uppers l 0)) → (member s k ≡ true) ⊎ Ends lowers uppers l p k
          up (inl j) = inl j
          up (inr e) = inr (rising e.0 (sym e.1))
      ends l s k (inr e) = inr (falling (sym e.1) e.0)

      serves : (l s k : ℕ) → least ≤ get_or flags l 0 → (member s k ≡ true) ⊎ Ends lowers uppers l p k → (member s k ≡ true) ⊎ ((least ≤ get_or flags l 0) × Ends lowers uppers l p k)
      serves l s k h (inl i) = inl i
      serves l s k h (inr e) = inr (h, e)

      gives : (l s k : ℕ) → member (if_lt (get_or flags l 0) least s (link_gives (get_or lowers l 0) (get_or uppers l 0) p s)) k ≡ true → (member s k ≡ true) ⊎ ((least ≤ get_or flags l 0) × Ends lowers uppers l p k)
      gives l s k =
          lt_elim (λ r. member r k ≡ true → (member s k ≡ true) ⊎ ((least ≤ get_or flags l 0) × Ends lowers uppers l p k)) (get_or flags l 0) least s (link_gives (get_or lowers l 0) (get_or uppers l 0) p s) (λ _ i. inl i)
          (λ h i. serves l s k h (ends l s k (in_towards (get_or uppers l 0) (get_or lowers l 0) p (towards (get_or lowers l 0) (get_or uppers l 0) p s) k i)))

  pub link_set_to : (n l p q : ℕ) → l < n → least ≤ get_or flags l 0 → Ends lowers uppers l p q → q < 64 → member (link_set lowers uppers flags least n p) q ≡ true
  unfolding link_set link_gives
  link_set_to n l p q h f e b =
      gathered_to (λ k s. if_lt (get_or flags k 0) least s (link_gives (get_or lowers k 0) (get_or uppers k 0) p s)) keeps n l q h (λ s. subst (λ r. member r q ≡ true) (sym (if_lt_no (get_or flags l 0) least s (link_gives (get_or lowers l 0) (get_or uppers l 0) p s) f)) (given s e))
    where
      keeps : (k s j : ℕ) → member s j ≡ true → member (if_lt (get_or flags k 0) least s (link_gives (get_or lowers k 0) (get_or uppers k 0) p s)) j ≡ true
      keeps k s j i =
          lt_elim (λ r. member r j ≡ true) (get_or flags k 0) least s (link_gives (get_or lowers k 0) (get_or uppers k 0) p s) (λ _. i)
          (λ _. towards_keeps (get_or uppers k 0) (get_or lowers k 0) p (towards (get_or lowers k 0) (get_or uppers k 0) p s) j (towards_keeps (get_or lowers k 0) (get_or uppers k 0) p s j i))

      given : (s : ℕ) → Ends lowers uppers l p q → member (link_gives (get_or lowers l 0) (get_or uppers l 0) p s) q ≡ true
      given s (rising x y) =
          towards_keeps (get_or uppers l 0) (get_or lowers l 0) p (towards (get_or lowers l 0) (get_or uppers l 0) p s) q
          (subst (λ j. member (towards (get_or lowers l 0) j p s) q ≡ true) (sym y) (towards_adds (get_or lowers l 0) q p s x b))
      given s (falling x y) =
          subst (λ j. member (towards (get_or uppers l 0) j p (towards (get_or lowers l 0) (get_or uppers l 0) p s)) q ≡ true) (sym x)
          (towards_adds (get_or uppers l 0) q p (towards (get_or lowers l 0) (get_or uppers l 0) p s) y b)

-- ---- children

-- "A node's children are the other nodes that name it as parent"
pub child_set_from : (parents : List ℕ) (n p q : ℕ) → member (child_set parents n p) q ≡ true → (q < n) × (get_or parents q 0 ≡ p) × (q ≡ p → ⊥)
unfolding child_set
child_set_from parents n p q m =
    let (i, h, (e, d, k)) = gathered_from (λ j s. if_eq (get_or parents j 0) j s (towards (get_or parents j 0) j p s)) (λ j k. (get_or parents j 0 ≡ p) × (get_or parents j 0 ≡ j → ⊥) × (k ≡ j)) gives n q m in
    (omega arith, ap (λ j. get_or parents j 0) k ∙ e, (λ z. d (e ∙ sym z ∙ k)))
  where
    pair : (j s k : ℕ) → (get_or parents j 0 ≡ j → ⊥) → (member s k ≡ true) ⊎ ((get_or parents j 0 ≡ p) × (k ≡ j)) → (member s k ≡ true) ⊎ ((get_or parents j 0 ≡ p) × (get_or parents j 0 ≡ j → ⊥) × (k ≡ j))
    pair j s k d (inl i) = inl i
    pair j s k d (inr e) = inr (e.0, d, e.1)

    gives : (j s k : ℕ) → member (if_eq (get_or parents j 0) j s (towards (get_or parents j 0) j p s)) k ≡ true → (member s k ≡ true) ⊎ ((get_or parents j 0 ≡ p) × (get_or parents j 0 ≡ j → ⊥) × (k ≡ j))
    gives j s k =
        eq_elim (λ r. member r k ≡ true → (member s k ≡ true) ⊎ ((get_or parents j 0 ≡ p) × (get_or parents j 0 ≡ j → ⊥) × (k ≡ j))) (get_or parents j 0) j s (towards (get_or parents j 0) j p s) (λ _ i. inl i)
        (λ d i. pair j s k d (in_towards (get_or parents j 0) j p s k i))

pub child_set_to : (parents : List ℕ) (n p q : ℕ) → q < n → q < 64 → get_or parents q 0 ≡ p → (q ≡ p → ⊥) → member (child_set parents n p) q ≡ true
unfolding child_set
child_set_to parents n p q h b e d =
    gathered_to (λ j s. if_eq (get_or parents j 0) j s (towards (get_or parents j 0) j p s)) keeps n q q h (λ s. subst (λ r. member r q ≡ true) (sym (if_eq_no (get_or parents q 0) q s (towards (get_or parents q 0) q p s) (λ z. d (sym z ∙ e)))) (towards_adds (get_or parents q 0) q p s e b))
  where
    keeps : (j s k : ℕ) → member s k ≡ true → member (if_eq (get_or parents j 0) j s (towards (get_or parents j 0) j p s)) k ≡ true
    keeps j s k i =
        eq_elim (λ r. member r k ≡ true) (get_or parents j 0) j s (towards (get_or parents j 0) j p s) (λ _. i) (λ _. towards_keeps (get_or parents j 0) j p s k i)

-- no node is its own child
pub no_own_child : (parents : List ℕ) (n p : ℕ) → member (child_set parents n p) p ≡ true → ⊥
no_own_child parents n p m = (child_set_from parents n p p m).2 refl

-- ---- the sets are sets of 64 marks

pub link_set_fits : (lowers uppers flags : List ℕ) (least n p : ℕ) → link_set lowers uppers flags least n p < 2 ^ 64
unfolding link_set link_gives
link_set_fits lowers uppers flags least n p =
    fold_keeps (λ s. s < 2 ^ 64) (λ l s. if_lt (get_or flags l 0) least s (link_gives (get_or lowers l 0) (get_or uppers l 0) p s)) 0 n (omega arith)
    (λ l _ s f. lt_elim (λ r. r < 2 ^ 64) (get_or flags l 0) least s (link_gives (get_or lowers l 0) (get_or uppers l 0) p s) (λ _. f) (λ _. towards_fits (get_or uppers l 0) (get_or lowers l 0) p (towards (get_or lowers l 0) (get_or uppers l 0) p s) (towards_fits (get_or lowers l 0) (get_or uppers l 0) p s f)))

pub child_set_fits : (parents : List ℕ) (n p : ℕ) → child_set parents n p < 2 ^ 64
unfolding child_set
child_set_fits parents n p =
    fold_keeps (λ s. s < 2 ^ 64) (λ q s. if_eq (get_or parents q 0) q s (towards (get_or parents q 0) q p s)) 0 n (omega arith)
    (λ q _ s f. eq_elim (λ r. r < 2 ^ 64) (get_or parents q 0) q s (towards (get_or parents q 0) q p s) (λ _. f) (λ _. towards_fits (get_or parents q 0) q p s f))
