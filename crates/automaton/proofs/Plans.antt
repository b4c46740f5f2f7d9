-- Small plans: document 01's T and P, a cluster of two, two controllers at any values, and a star of four. Plan T is an accepted network, so demand 3 speaks of it.
-- Assumes nothing.
use Prim.Native.Nat.{ℕ, zero, suc, ◌<◌}
use native.Mathlib.Omega.{arith}
use mathlib.Core.Path.{◌≡◌, refl, subst₂}
use mathlib.Core.Logic.{◌⊎◌, inl, inr}
use mathlib.Core.Bool.{Bool, true, false}
use mathlib.Core.List.{List, [], ◌∷◌}
use lib.Dec.{eqb}
use lib.ListN.{length, get_or}
use borrow.Author.Tests.{eqb-true}
use Rattle.laws.specs.Choice.{if_b, both}
use Rattle.laws.specs.Mean.{rule_of}
use Rattle.laws.proofs.Choice.{both_left, both_right}
use Rattle.automaton.specs.Network.{Net}
use Rattle.automaton.specs.Clusters.{climb, root_of}
use Rattle.automaton.specs.Accepted.{Accepted, Joining}

-- a link's ends a and b, and its flag, 0 ordinary or 1 preferred
abbrev pub Link : Type 0
Link = ℕ × ℕ × ℕ

-- a link of the list has the ends p and q, whichever way round, and passes the test
unfoldable pub joins : (Link → Bool) → List Link → ℕ → ℕ → Bool
unfolding if_b both
joins t [] p q = false
joins t (l ∷ ls) p q =
    if_b (both (t l) (if_b (both (eqb l.0 p) (eqb l.1 q)) true (both (eqb l.0 q) (eqb l.1 p)))) true
    (joins t ls p q)

-- a plan by its rounds, its nodes (parent, start value) and its links
unfoldable pub plan : ℕ → List (ℕ × ℕ) → List Link → Net ℕ
unfolding joins
plan rounds nodes links =
    record {
      n = length nodes;
      rounds = rounds;
      parent = λ p. (get_or nodes p (p, 0)).0;
      link = joins (λ l. true) links;
      preferred = joins (λ l. eqb l.2 1) links;
      start = λ p. (get_or nodes p (p, 0)).1;
      unheard = 0;
      rule = rule_of;
    }

-- "Plan T: two roots, values 100 and 301, one preferred link"
unfoldable pub plan_t : ℕ → Net ℕ
unfolding plan
plan_t rounds = plan rounds ((0, 100) ∷ (1, 301) ∷ []) ((0, 1, 1) ∷ [])

-- T with other values
unfoldable pub plan_pair : ℕ → ℕ → Net ℕ
unfolding plan
plan_pair a b = plan 1 ((0, a) ∷ (1, b) ∷ []) ((0, 1, 1) ∷ [])

-- one cluster of four: its root 0 at a, linked to three leaves at b
unfoldable pub plan_star : ℕ → ℕ → Net ℕ
unfolding plan
plan_star a b = plan 1 ((0, a) ∷ (0, b) ∷ (0, b) ∷ (0, b) ∷ []) ((0, 1, 0) ∷ (0, 2, 0) ∷ (0, 3, 0) ∷ [])

-- "Plan P: path 0-1-2, one cluster, root 1, values 0, 10, 5"
unfoldable pub plan_p : ℕ → Net ℕ
unfolding plan
plan_p rounds = plan rounds ((1, 0) ∷ (1, 10) ∷ (1, 5) ∷ []) ((0, 1, 0) ∷ (1, 2, 0) ∷ [])

-- one cluster of two: 0 its root, 1 a leaf with no preferred link
unfoldable pub plan_c : ℕ → Net ℕ
unfolding plan
plan_c rounds = plan rounds ((0, 100) ∷ (0, 301) ∷ []) ((0, 1, 0) ∷ [])

-- ---- plan T is accepted

one_link : (s t : Bool) → if_b (both true (if_b s true t)) true false ≡ true → (s ≡ true) ⊎ (t ≡ true)
unfolding if_b both
one_link true t e = inl refl
one_link false true e = inr refl
one_link false false e = inr e

module _ (r : ℕ) where
  -- its one link joins 0 and 1, either way round
  ends_T : (P : ℕ → ℕ → Type 0) → P 0 1 → P 1 0 → (p q : ℕ) → (plan_t r).link p q ≡ true → P p q
  unfolding plan_t
  ends_T P ab ba p q e =
      at (one_link (both (eqb 0 p) (eqb 1 q)) (both (eqb 0 q) (eqb 1 p)) e)
    where
      at : (both (eqb 0 p) (eqb 1 q) ≡ true) ⊎ (both (eqb 0 q) (eqb 1 p) ≡ true) → P p q
      at (inl t) = subst₂ P (eqb-true 0 p (both_left (eqb 0 p) (eqb 1 q) t)) (eqb-true 1 q (both_right (eqb 0 p) (eqb 1 q) t)) ab
      at (inr t) = subst₂ P (eqb-true 1 p (both_right (eqb 0 q) (eqb 1 p) t)) (eqb-true 0 q (both_left (eqb 0 q) (eqb 1 p) t)) ba

  each_of_T : (P : ℕ → Type 0) → P 0 → P 1 → (p : ℕ) → p < 2 → P p
  each_of_T P a b zero h = a
  each_of_T P a b (suc zero) h = b
  each_of_T P a b (suc (suc p)) h = absurd (omega arith)

  pub T-accepted : Accepted (plan_t r)
  unfolding plan_t root_of climb
  T-accepted =
      record {
        parent_below = each_of_T (λ p. (plan_t r).parent p < 2) (omega arith) (omega arith);
        root_reached = each_of_T (λ p. (plan_t r).parent (root_of (plan_t r) p) ≡ root_of (plan_t r) p) refl refl;
        both_ways = ends_T (λ p q. (plan_t r).link q p ≡ true) refl refl;
        joining =
            ends_T (λ x y. (root_of (plan_t r) x ≡ root_of (plan_t r) y → ⊥) → Joining (plan_t r) x y)
            (λ _. record { u = 0; v = 1; preferred = refl; u_below = omega arith; v_below = omega arith; u_side = refl; v_side = refl })
            (λ _. record { u = 1; v = 0; preferred = refl; u_below = omega arith; v_below = omega arith; u_side = refl; v_side = refl });
      }
