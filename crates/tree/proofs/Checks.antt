-- Checks 6 and 7 answer the first breach of their rules: "Each node that is no root has a link to its parent", "Following parents from a node
-- must end at a root". With `Breach` the node count is answered exactly if every node keeps the rule, and w exactly if w is the lowest that
-- does not.
-- Assumes nothing.
use Prim.Native.Nat.{ℕ, ◌<◌}
use native.Mathlib.Omega.{arith}
use native.Mathlib.Decide.{ℕ_discrete}
use mathlib.Core.Path.{◌≡◌, refl, sym, ◌∙◌, ap}
use mathlib.Core.Bool.{Bool, true, false, not}
use mathlib.Core.List.{List}
use borrow.Author.Tests.{not-true, not-false}
use Rattle.laws.specs.Choice.{if_lt}
use Rattle.laws.proofs.Choice.{eq_elim, lt_elim, true_not_false}
use Rattle.network.specs.declared.Network.{Network}
use Rattle.links.specs.Links.{nodes_of, links_of, has_link, Linked}
use Rattle.links.specs.Breach.{Breach}
use Rattle.links.proofs.Breach.{first_is_breach, none_exactly}
use Rattle.links.proofs.Links.{has_link_linked, linked_has_link}
use Rattle.std.specs.Prelude.{Option, Some, None}
use Rattle.tree.specs.Climb.{parent_in, root_from, root_of, lost, IsRoot}
use Rattle.tree.specs.Checks.{untied, first_untied, Tied, first_lost, EndsAtRoot}
use Rattle.tree.proofs.Roots.{found_exactly, leads_root, leads_to_root_of}

-- ---- 6, of a node p and its parent q

module _ (lowers uppers : List ℕ) (links nodes p q : ℕ) where
  abbrev linked : Bool
  linked = has_link lowers uppers links p q

  abbrev Ties : Type 0
  Ties = (q ≡ p → ⊥) → (q < nodes) × Linked lowers uppers links p q

  tied_keeps : untied lowers uppers links nodes p q ≡ false → Ties
  unfolding untied
  tied_keeps =
      eq_elim (λ t. t ≡ false → Ties) q p false (if_lt q nodes (not linked) true) (λ root _ no_root. absurd (no_root root))
      (λ _. lt_elim (λ t. t ≡ false → Ties) q nodes (not linked) true (λ h e _. (h, has_link_linked lowers uppers links p q (not-false linked e))) (λ _ e. absurd (true_not_false true refl e)))

  untied_breaks : untied lowers uppers links nodes p q ≡ true → Ties → ⊥
  unfolding untied
  untied_breaks =
      eq_elim (λ t. t ≡ true → Ties → ⊥) q p false (if_lt q nodes (not linked) true) (λ _ e _. true_not_false false e refl)
      (λ no_root. lt_elim (λ t. t ≡ true → Ties → ⊥) q nodes (not linked) true (λ _ e tied. true_not_false linked (linked_has_link lowers uppers links p q (tied no_root).1) (not-true linked e)) (λ h _ tied. omega (arith, (tied no_root).0)))

module _ (net : Network) where
  abbrev up : ℕ → ℕ
  up = parent_in net.parents

  -- 6 answers the first breach of "Each node that is no root has a link to its parent"
  pub untied_is_breach : Breach (Tied net) (nodes_of net) (first_untied net)
  unfolding first_untied Tied
  untied_is_breach =
      first_is_breach (λ p. untied net.lowers net.uppers (links_of net) (nodes_of net) p (up p)) (Tied net) (nodes_of net)
      (λ p _. tied_keeps net.lowers net.uppers (links_of net) (nodes_of net) p (up p))
      (λ p _. untied_breaks net.lowers net.uppers (links_of net) (nodes_of net) p (up p))

  -- where 6 does not apply, every parent is a node
  pub parent_below_lem : first_untied net ≡ nodes_of net → (p : ℕ) → p < nodes_of net → up p < nodes_of net
  unfolding Tied
  parent_below_lem e p h = at (ℕ_discrete (up p) p) ((none_exactly untied_is_breach).0 e p h)
    where
      at : Dec (up p ≡ p) → Tied net p → up p < nodes_of net
      at (yes root) _ = omega arith
      at (no no_root) tied = (tied no_root).0

  -- 7 answers the first breach of "Following parents from a node must end at a root"
  pub lost_is_breach : Breach (EndsAtRoot net) (nodes_of net) (first_lost net)
  unfolding first_lost
  lost_is_breach =
      first_is_breach (λ p. lost (root_from up (nodes_of net) (nodes_of net) p)) (EndsAtRoot net) (nodes_of net)
      (λ p _. keeps p (root_from up (nodes_of net) (nodes_of net) p) refl)
      (λ p _. breaks p)
    where
      keeps : (p : ℕ) (c : Option ℕ) → root_from up (nodes_of net) (nodes_of net) p ≡ c → lost c ≡ false → EndsAtRoot net p
      keeps p (Some r) e _ = record { root = r; leads = (found_exactly up (nodes_of net) p r).0 e }
      keeps p None e f = absurd (true_not_false true refl f)

      breaks : (p : ℕ) → lost (root_from up (nodes_of net) (nodes_of net) p) ≡ true → EndsAtRoot net p → ⊥
      breaks p e x =
          true_not_false (lost (root_from up (nodes_of net) (nodes_of net) p)) e (ap lost ((found_exactly up (nodes_of net) p x.root).1 x.leads))

  -- where 7 does not apply, the walk from each node finds the root to which as many steps as there are nodes lead
  pub root_found : first_lost net ≡ nodes_of net → (p : ℕ) → p < nodes_of net → root_from up (nodes_of net) (nodes_of net) p ≡ Some (root_of up (nodes_of net) p)
  root_found e p h =
      let x = (none_exactly lost_is_breach).0 e p h in
      (found_exactly up (nodes_of net) p x.root).1 x.leads ∙ ap Some (sym (leads_to_root_of up (nodes_of net) x.leads))

  -- and that is a root
  pub root_of_is_root : first_lost net ≡ nodes_of net → (p : ℕ) → p < nodes_of net → IsRoot up (nodes_of net) (root_of up (nodes_of net) p)
  root_of_is_root e p h = leads_root up (nodes_of net) ((found_exactly up (nodes_of net) p (root_of up (nodes_of net) p)).0 (root_found e p h))
