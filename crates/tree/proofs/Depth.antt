-- Depth below the root: the exact distance. It is 0 for a root, one more than its parent's for any other node, and below the node count;
-- as many steps lead to the root, and no fewer do.
-- Assumes nothing.
use Prim.Native.Nat.{ℕ, zero, suc, ◌-◌, ◌<◌, ◌≤◌}
use native.Mathlib.Nat.{le_refl, le_of_lt, not-suc-le-zero}
use native.Mathlib.Omega.{arith}
use mathlib.Core.Path.{◌≡◌, refl, sym, ◌∙◌, ap, subst}
use mathlib.Core.Logic.{◌↔◌}
use Rattle.laws.proofs.Choice.{if_eq_yes, if_eq_no}
use Rattle.tree.specs.Climb.{climb, depth_from, depth_of, Leads}
use Rattle.tree.proofs.Distance.{ExactIn, exact_leads, exact_of, exact_unique, exact_climb, exact_below}
use Rattle.tree.proofs.Roots.{leads_climb, leads_up}

module _ (up : ℕ → ℕ) (n : ℕ) where
  exact_depth : (k left p r : ℕ) → ExactIn up n k p r → k ≤ left → depth_from up left p ≡ k
  unfolding depth_from ExactIn
  exact_depth zero zero p r x h = refl
  exact_depth zero (suc left) p r x h =
      if_eq_yes (up p) p 0 (suc (depth_from up left (up p))) (subst (λ q. up q ≡ q) (sym x.0) x.1.own_parent)
  exact_depth (suc k) zero p r x h = absurd (not-suc-le-zero h)
  exact_depth (suc k) (suc left) p r x h =
      if_eq_no (up p) p 0 (suc (depth_from up left (up p))) x.1
      ∙ ap suc (exact_depth k left (up p) r x.2 (omega arith))

  -- the depth is the exact distance
  pub depth_is_exact : {p r : ℕ} → Leads up n p r → ExactIn up n (depth_of up n p) p r
  unfolding depth_of
  depth_is_exact {p} {r} x =
      let d = exact_of up n x.steps p r x.way in
      subst (λ k. ExactIn up n k p r) (sym (exact_depth d.0 n p r d.2 (le_of_lt (exact_below up n d.0 p r d.2)))) d.2

  pub depth_below : {p r : ℕ} → Leads up n p r → depth_of up n p < n
  depth_below {p} {r} x = exact_below up n (depth_of up n p) p r (depth_is_exact x)

  -- as many steps lead to the root ..
  pub depth_leads : {p r : ℕ} → Leads up n p r → climb up (depth_of up n p) p ≡ r
  depth_leads {p} {r} x =
      leads_climb up n (depth_of up n p) (depth_of up n p) p r (exact_leads up n (depth_of up n p) p r (depth_is_exact x)) (le_refl (depth_of up n p))

  -- .. and no fewer come to one
  pub depth_least : {p r : ℕ} → Leads up n p r → (k : ℕ) → k < depth_of up n p → up (climb up k p) ≡ climb up k p → ⊥
  unfolding ExactIn
  depth_least {p} {r} x k h = at (depth_of up n p - k) (omega arith) (exact_climb up n k (depth_of up n p) p r (le_of_lt h) (depth_is_exact x))
    where
      at : (d : ℕ) → 0 < d → ExactIn up n d (climb up k p) r → up (climb up k p) ≡ climb up k p → ⊥
      at zero l y = absurd (not-suc-le-zero l)
      at (suc d) l y = y.1

  -- 0 exactly for a root
  pub depth_zero : {p r : ℕ} → Leads up n p r → (depth_of up n p ≡ 0) ↔ (up p ≡ p)
  unfolding ExactIn
  depth_zero {p} {r} x = at (depth_of up n p) refl (depth_is_exact x)
    where
      at : (d : ℕ) → depth_of up n p ≡ d → ExactIn up n d p r → (depth_of up n p ≡ 0) ↔ (up p ≡ p)
      at zero e y = (λ _. subst (λ q. up q ≡ q) (sym y.0) y.1.own_parent, λ _. e)
      at (suc d) e y = (λ z. absurd (omega arith), λ q. absurd (y.1 q))

  -- one more than the parent's for any other node
  pub depth_parent : {p r : ℕ} → Leads up n p r → (up p ≡ p → ⊥) → depth_of up n p ≡ suc (depth_of up n (up p))
  unfolding ExactIn
  depth_parent {p} {r} x no_root = at (depth_of up n p) (depth_is_exact x)
    where
      at : (d : ℕ) → ExactIn up n d p r → d ≡ suc (depth_of up n (up p))
      at zero y = absurd (no_root (subst (λ q. up q ≡ q) (sym y.0) y.1.own_parent))
      at (suc d) y =
          ap suc (exact_unique up n d (depth_of up n (up p)) (up p) r r y.2 (depth_is_exact (leads_up up n x)))
