-- The exact distance from a node to its root: how many steps there are, none of them from a root. A walk that leads to a root has one, and
-- no node has two; so the nodes on the way are all different, and there are at most n of them: the distance is below the node count.
-- Assumes nothing.
use Prim.Native.Nat.{ℕ, zero, suc, ◌-◌, ◌<◌, ◌≤◌}
use native.Mathlib.Nat.{le_refl, not-suc-le-zero}
use native.Mathlib.Omega.{arith}
use native.Mathlib.Decide.{ℕ_discrete}
use mathlib.Core.Path.{◌≡◌, refl, sym, ◌∙◌, ap, subst}
use Rattle.tree.specs.Climb.{climb, IsRoot, LeadsIn}
use Rattle.tree.proofs.Pigeonhole.{pigeonhole}

-- k steps from p to the root r, from node to node, none of them from a root
unfoldable pub ExactIn : (ℕ → ℕ) → ℕ → ℕ → ℕ → ℕ → Type 0
ExactIn up n zero p r = (p ≡ r) × IsRoot up n r
ExactIn up n (suc k) p r = (p < n) × (up p ≡ p → ⊥) × ExactIn up n k (up p) r

module _ (up : ℕ → ℕ) (n : ℕ) where
  exact_node : (k p r : ℕ) → ExactIn up n k p r → p < n
  unfolding ExactIn
  exact_node zero p r x = subst (λ q. q < n) (sym x.0) x.1.node
  exact_node (suc k) p r x = x.0

  pub exact_leads : (k p r : ℕ) → ExactIn up n k p r → LeadsIn up n k p r
  unfolding ExactIn LeadsIn
  exact_leads zero p r x = x
  exact_leads (suc k) p r x = (x.0, exact_leads k (up p) r x.2)

  -- from a root the parents lead to it alone
  pub root_is_own : (k p r : ℕ) → LeadsIn up n k p r → up p ≡ p → p ≡ r
  unfolding LeadsIn
  root_is_own zero p r x e = x.0
  root_is_own (suc k) p r x e = sym e ∙ root_is_own k (up p) r x.1 (ap up e)

  -- steps that lead to a root hold an exact distance
  pub exact_of : (k p r : ℕ) → LeadsIn up n k p r → (d : ℕ) × (d ≤ k) × ExactIn up n d p r
  unfolding ExactIn LeadsIn
  exact_of zero p r x = (0, le_refl 0, x)
  exact_of (suc k) p r x = at (ℕ_discrete (up p) p) (exact_of k (up p) r x.1)
    where
      at : Dec (up p ≡ p) → (d : ℕ) × (d ≤ k) × ExactIn up n d (up p) r → (d : ℕ) × (d ≤ suc k) × ExactIn up n d p r
      at (yes e) _ =
          let q : p ≡ r = root_is_own (suc k) p r x e in
          (0, omega arith, (q, record { node = subst (λ y. y < n) q x.0; own_parent = subst (λ y. up y ≡ y) q e }))
      at (no d) t = (suc t.0, omega (arith, t.1), (x.0, d, t.2))

  -- no node has two
  pub exact_unique : (j k p r s : ℕ) → ExactIn up n j p r → ExactIn up n k p s → j ≡ k
  unfolding ExactIn
  exact_unique zero zero p r s x y = refl
  exact_unique zero (suc k) p r s x y = absurd (y.1 (subst (λ q. up q ≡ q) (sym x.0) x.1.own_parent))
  exact_unique (suc j) zero p r s x y = absurd (x.1 (subst (λ q. up q ≡ q) (sym y.0) y.1.own_parent))
  exact_unique (suc j) (suc k) p r s x y = ap suc (exact_unique j k (up p) r s x.2 y.2)

  -- each step on the way takes one off it
  pub exact_climb : (j k p r : ℕ) → j ≤ k → ExactIn up n k p r → ExactIn up n (k - j) (climb up j p) r
  unfolding climb ExactIn
  exact_climb zero k p r h x =
      let e : k ≡ k - 0 = omega arith in
      subst (λ d. ExactIn up n d p r) e x
  exact_climb (suc j) zero p r h x = absurd (not-suc-le-zero h)
  exact_climb (suc j) (suc k) p r h x =
      let e : k - j ≡ suc k - suc j = omega arith in
      subst (λ d. ExactIn up n d (climb up j (up p)) r) e (exact_climb j k (up p) r (omega arith) x.2)

  -- so the nodes on the way are different, and the distance is below the node count
  pub exact_below : (k p r : ℕ) → ExactIn up n k p r → k < n
  exact_below k p r x = pigeonhole n (suc k) (λ j. climb up j p) (λ j h. exact_node (k - j) (climb up j p) r (on_way j h)) differ
    where
      on_way : (j : ℕ) → j < suc k → ExactIn up n (k - j) (climb up j p) r
      on_way j h = exact_climb j k p r (omega arith) x

      differ : (i j : ℕ) → i < suc k → j < suc k → climb up i p ≡ climb up j p → i ≡ j
      differ i j h l e =
          omega (arith, exact_unique (k - i) (k - j) (climb up j p) r r (subst (λ q. ExactIn up n (k - i) q r) e (on_way i h)) (on_way j l))
