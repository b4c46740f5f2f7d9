-- What the walk with steps left finds. A root that it finds is one that the parents lead to; where it finds none in as many steps as there are
-- nodes, no number of steps leads to a root, since an exact distance is below the node count.
-- Assumes nothing.
use Prim.Native.Nat.{ℕ, zero, suc, ◌-◌, ◌<◌, ◌≤◌}
use native.Mathlib.Nat.{le_of_lt, not-suc-le-zero}
use native.Mathlib.Omega.{arith}
use native.Mathlib.Decide.{ℕ_discrete}
use mathlib.Core.Path.{◌≡◌, refl, sym, ◌∙◌, ap, subst}
use mathlib.Core.Logic.{◌↔◌}
use Rattle.std.specs.Prelude.{Option, Some, None}
use Rattle.tree.specs.Climb.{climb, root_of, root_from, IsRoot, LeadsIn, Leads}
use Rattle.tree.proofs.Turn.{further, at_root, to_parent, turn_elim}
use Rattle.tree.proofs.Distance.{exact_leads, root_is_own, exact_of, exact_below}

none_is_no_root : {r : ℕ} → None ≡ Some r → ⊥
none_is_no_root e =
    let z : ◌≡◌ {A = ℕ} 0 1 = cc in
    omega arith

module _ (up : ℕ → ℕ) (n : ℕ) where
  here : (p r : ℕ) → p < n → up p ≡ p → Some p ≡ Some r → Leads up n p r
  unfolding LeadsIn
  here p r h e q =
      let s : p ≡ r = cc in
      record { steps = 0; way = (s, record { node = subst (λ y. y < n) s h; own_parent = subst (λ y. up y ≡ y) s e }) }

  -- a root that is found is one that the parents lead to
  found_leads : (left p r : ℕ) → root_from up n left p ≡ Some r → Leads up n p r
  unfolding further LeadsIn
  found_leads zero p r =
      turn_elim up n (λ c. c ≡ Some r → Leads up n p r) 0 p (λ _ e. absurd (none_is_no_root e)) (here p r) (λ _ _ e. absurd (none_is_no_root e))
  found_leads (suc left) p r =
      turn_elim up n (λ c. c ≡ Some r → Leads up n p r) (suc left) p (λ _ e. absurd (none_is_no_root e)) (here p r)
      (λ h _ e. let x : Leads up n (up p) r = found_leads left (up p) r e in record { steps = suc x.steps; way = (h, x.way) })

  -- and enough steps left find the root that the parents lead to
  leads_found : (k left p r : ℕ) → LeadsIn up n k p r → k ≤ left → root_from up n left p ≡ Some r
  unfolding LeadsIn
  leads_found zero left p r x h =
      subst (λ q. root_from up n left q ≡ Some r) (sym x.0) (at_root up n left r x.1.node x.1.own_parent)
  leads_found (suc k) left p r x h = at (ℕ_discrete (up p) p) (leads_found k (left - 1) (up p) r x.1 (omega arith))
    where
      at : Dec (up p ≡ p) → root_from up n (left - 1) (up p) ≡ Some r → root_from up n left p ≡ Some r
      at (yes e) _ = at_root up n left p x.0 e ∙ ap Some (root_is_own up n (suc k) p r x e)
      at (no d) next = to_parent up n left p x.0 d (omega arith) ∙ next

  -- the walk finds r exactly if the parents lead to r
  pub found_exactly : (p r : ℕ) → (root_from up n n p ≡ Some r) ↔ Leads up n p r
  found_exactly p r = (found_leads n p r, found)
    where
      found : Leads up n p r → root_from up n n p ≡ Some r
      found x =
          let d = exact_of up n x.steps p r x.way in
          leads_found d.0 n p r (exact_leads up n d.0 p r d.2) (le_of_lt (exact_below up n d.0 p r d.2))

  -- the walk finds none exactly if no number of steps leads to a root
  pub none_exactly : (p : ℕ) → (root_from up n n p ≡ None) ↔ ((r : ℕ) → Leads up n p r → ⊥)
  none_exactly p = (λ e r x. none_is_no_root (sym e ∙ (found_exactly p r).1 x), λ never. at (root_from up n n p) refl never)
    where
      at : (c : Option ℕ) → root_from up n n p ≡ c → ((r : ℕ) → Leads up n p r → ⊥) → root_from up n n p ≡ None
      at (Some r) e never = absurd (never r ((found_exactly p r).0 e))
      at None e never = e

  -- ---- the root that is found is where as many steps as there are nodes lead

  climb_stays : (k r : ℕ) → up r ≡ r → climb up k r ≡ r
  unfolding climb
  climb_stays zero r e = refl
  climb_stays (suc k) r e = ap (climb up k) e ∙ climb_stays k r e

  pub leads_climb : (k m p r : ℕ) → LeadsIn up n k p r → k ≤ m → climb up m p ≡ r
  unfolding climb LeadsIn
  leads_climb zero m p r x h = ap (climb up m) x.0 ∙ climb_stays m r x.1.own_parent
  leads_climb (suc k) zero p r x h = absurd (not-suc-le-zero h)
  leads_climb (suc k) (suc m) p r x h = leads_climb k m (up p) r x.1 (omega arith)

  pub leads_to_root_of : {p r : ℕ} → Leads up n p r → root_of up n p ≡ r
  unfolding root_of
  leads_to_root_of {p} {r} x =
      let d = exact_of up n x.steps p r x.way in
      leads_climb d.0 n p r (exact_leads up n d.0 p r d.2) (le_of_lt (exact_below up n d.0 p r d.2))

  pub leads_root : {p r : ℕ} → Leads up n p r → IsRoot up n r
  unfolding LeadsIn
  leads_root {p} {r} x = at x.steps p x.way
    where
      at : (k p : ℕ) → LeadsIn up n k p r → IsRoot up n r
      at zero p y = y.1
      at (suc k) p y = at k (up p) y.1

  -- a node and its parent lead to the same root
  pub leads_up : {p r : ℕ} → Leads up n p r → Leads up n (up p) r
  unfolding LeadsIn
  leads_up {p} {r} x = at x.steps x.way
    where
      at : (k : ℕ) → LeadsIn up n k p r → Leads up n (up p) r
      at zero y =
          let e : up p ≡ r = ap up y.0 ∙ y.1.own_parent in
          record { steps = 0; way = (e, y.1) }
      at (suc k) y = record { steps = k; way = y.1 }

  -- ---- in plain steps, where every parent is a node

  module _ (inside : (q : ℕ) → q < n → up q < n) where
    climb_leads : (k p : ℕ) → p < n → up (climb up k p) ≡ climb up k p → LeadsIn up n k p (climb up k p)
    unfolding climb LeadsIn
    climb_leads zero p h e = (refl, record { node = h; own_parent = e })
    climb_leads (suc k) p h e = (h, climb_leads k (up p) (inside p h) e)

    -- "none within the node count": no number of steps comes to a node that is its own parent
    pub none_is_never : (p : ℕ) → p < n → root_from up n n p ≡ None → (k : ℕ) → up (climb up k p) ≡ climb up k p → ⊥
    none_is_never p h e k q = (none_exactly p).0 e (climb up k p) (record { steps = k; way = climb_leads k p h q })
