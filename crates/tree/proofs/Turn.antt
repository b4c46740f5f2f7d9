-- One turn of the walk up the parents, for each of its ways out and for the step to the parent.
-- Assumes nothing.
use Prim.Native.Nat.{ℕ, zero, suc, ◌-◌, ◌<◌, ◌≤◌}
use native.Mathlib.Omega.{arith}
use native.Mathlib.Decide.{dec_lt}
use mathlib.Core.Path.{◌≡◌, refl, sym, ◌∙◌, ap, ap₂, subst}
use Rattle.laws.specs.Choice.{if_lt, if_eq}
use Rattle.laws.proofs.Choice.{if_lt_yes, if_lt_no, if_eq_yes, if_eq_no, lt_elim, eq_elim}
use Rattle.std.specs.Prelude.{Option, Some, None}
use Rattle.tree.specs.Climb.{root_from}

module _ (up : ℕ → ℕ) (n : ℕ) where
  -- what the walk answers at a node that is no root: by the steps left
  unfoldable pub further : ℕ → ℕ → Option ℕ
  further zero p = None
  further (suc left) p = root_from up n left (up p)

  turn : (left p : ℕ) → root_from up n left p ≡ if_lt p n (if_eq (up p) p (Some p) (further left p)) None
  unfolding root_from further
  turn zero p = refl
  turn (suc left) p = refl

  pub no_node : (left p : ℕ) → n ≤ p → root_from up n left p ≡ None
  no_node left p h = turn left p ∙ if_lt_no p n (if_eq (up p) p (Some p) (further left p)) None h

  pub at_root : (left p : ℕ) → p < n → up p ≡ p → root_from up n left p ≡ Some p
  at_root left p h e =
      turn left p
      ∙ if_lt_yes p n (if_eq (up p) p (Some p) (further left p)) None h
      ∙ if_eq_yes (up p) p (Some p) (further left p) e

  not_yet : (left p : ℕ) → p < n → (up p ≡ p → ⊥) → root_from up n left p ≡ further left p
  not_yet left p h d =
      turn left p
      ∙ if_lt_yes p n (if_eq (up p) p (Some p) (further left p)) None h
      ∙ if_eq_no (up p) p (Some p) (further left p) d

  pub no_steps_left : (left p : ℕ) → p < n → (up p ≡ p → ⊥) → left ≡ 0 → root_from up n left p ≡ None
  unfolding further
  no_steps_left left p h d e = ap (λ k. root_from up n k p) e ∙ not_yet 0 p h d

  pub to_parent : (left p : ℕ) → p < n → (up p ≡ p → ⊥) → (left ≡ 0 → ⊥) → root_from up n left p ≡ root_from up n (left - 1) (up p)
  unfolding further
  to_parent left p h d s =
      let e : left ≡ suc (left - 1) = omega arith in
      ap (λ k. root_from up n k p) e ∙ not_yet (suc (left - 1)) p h d

  -- what holds of each way on holds of the walk
  pub turn_elim : (P : Option ℕ → Type 0) (left p : ℕ) → (n ≤ p → P None) → (p < n → up p ≡ p → P (Some p)) → (p < n → (up p ≡ p → ⊥) → P (further left p)) → P (root_from up n left p)
  turn_elim P left p outside root on =
      subst P (sym (turn left p)) (lt_elim P p n (if_eq (up p) p (Some p) (further left p)) None (λ h. eq_elim P (up p) p (Some p) (further left p) (root h) (on h)) outside)

module _ (up up' : ℕ → ℕ) (n : ℕ) (same : (q : ℕ) → q < n → up q ≡ up' q) where
  turn_same : (left p : ℕ) (o : Option ℕ) → further up n left p ≡ o → (p < n → further up' n left p ≡ o) → Dec (p < n) → root_from up n left p ≡ root_from up' n left p
  turn_same left p o e e' (yes h) =
      turn up n left p ∙ ap₂ (λ q r. if_lt p n (if_eq q p (Some p) r) None) (same p h) (e ∙ sym (e' h)) ∙ sym (turn up' n left p)
  turn_same left p o e e' (no h) = no_node up n left p (omega arith) ∙ sym (no_node up' n left p (omega arith))

  -- only the parents of the nodes count
  pub root_same : (left p : ℕ) → root_from up n left p ≡ root_from up' n left p
  unfolding further
  root_same zero p = turn_same 0 p None refl (λ _. refl) (dec_lt p n)
  root_same (suc left) p =
      turn_same (suc left) p (root_from up n left (up p)) refl (λ h. ap (root_from up' n left) (sym (same p h)) ∙ sym (root_same left (up p))) (dec_lt p n)
