-- Words along the trees of parents. A root says a thing by one action and any other node by another (`role`). A word that each node has from
-- its parent is said by no node more often than by its root (`from_root`); a word that each node says once all its children's words are
-- delivered is said by no root more often than by each node of its cluster (`to_root`). Nothing here knows what the words mean.
-- Assumes nothing.
use Prim.Native.Nat.{ℕ, zero, suc, ◌≤◌, ◌<◌}
use native.Mathlib.Nat.{le_refl, le_trans}
use mathlib.Core.Path.{◌≡◌, refl, sym, ap}
use mathlib.Core.Bool.{Bool, true, false, not}
use lib.Dec.{eqb}
use borrow.Author.Tests.{eqb-true, eqb-false, eq-eqb, ne_eqb}
use Rattle.laws.specs.Choice.{if_b, both}
use Rattle.laws.proofs.Choice.{if_b_yes, if_b_no, both_yes}
use Rattle.automaton.specs.Actions.{Act}
use Rattle.automaton.specs.Network.{Net, is_root, children}
use Rattle.automaton.specs.Clusters.{climb, root_of}
use Rattle.automaton.specs.Accepted.{Accepted}
use Rattle.automaton.proofs.Lists.{Every, picked}

-- the action by which a root says a thing, or that by which another node does
abbrev pub role : {Value : Type 0} → Net Value → (ℕ → Act) → (ℕ → Act) → ℕ → Act
role net r w p = if_b (is_root net p) (r p) (w p)

module _ {Value : Type 0} (net : Net Value) (acc : Accepted net) where
  -- ---- over any number that each node has

  pub rising :
      (f : ℕ → ℕ) → ((p : ℕ) → p < net.n → f p ≤ f (net.parent p)) → (p : ℕ) → p < net.n → f p ≤ f (root_of net p)
  unfolding root_of climb
  rising f up = along net.n
    where
      along : (k p : ℕ) → p < net.n → f p ≤ f (climb net k p)
      along zero p h = le_refl (f p)
      along (suc k) p h = le_trans (up p h) (along k (net.parent p) (acc.parent_below p h))

  pub falling :
      (f : ℕ → ℕ) → ((p : ℕ) → p < net.n → f (net.parent p) ≤ f p) → (p : ℕ) → p < net.n → f (root_of net p) ≤ f p
  unfolding root_of climb
  falling f down = along net.n
    where
      along : (k p : ℕ) → p < net.n → f (climb net k p) ≤ f p
      along zero p h = le_refl (f p)
      along (suc k) p h = le_trans (along k (net.parent p) (acc.parent_below p h)) (down p h)

  -- ---- a root is its own parent, and any other node is a child of its parent

  root_or_child :
      (P : Type 0) (p : ℕ) → p < net.n → (net.parent p ≡ p → P)
      → (is_root net p ≡ false → ((Q : ℕ → Type 0) → Every Q (children net (net.parent p)) → Q p) → P) → P
  unfolding is_root children
  root_or_child P p h root child = at (is_root net p) refl
    where
      at : (t : Bool) → is_root net p ≡ t → P
      at true e = root (eqb-true (net.parent p) p e)
      at false e =
          child e λ Q each.
          picked Q (λ k. both (eqb (net.parent k) (net.parent p)) (not (eqb k (net.parent p)))) net.n each p h
          (both_yes (eqb (net.parent p) (net.parent p)) (not (eqb p (net.parent p)))
          (eq-eqb (net.parent p) (net.parent p) refl)
          (ap not (ne_eqb p (net.parent p) (λ d. eqb-false (net.parent p) p e (sym d)))))

  -- ---- words, each with its count

  module _ (c : Act → ℕ) (r w : ℕ → Act) where
    said : ℕ → ℕ
    said p = c (role net r w p)

    at_root : (p : ℕ) → p < net.n → said (root_of net p) ≡ c (r (root_of net p))
    unfolding said is_root
    at_root p h =
        ap c
        (if_b_yes (is_root net (root_of net p)) (r (root_of net p)) (w (root_of net p))
        (eq-eqb (net.parent (root_of net p)) (root_of net p) (acc.root_reached p h)))

    pub from_root :
        ((p : ℕ) → c (w p) ≤ c (role net r w (net.parent p))) → (p : ℕ) → p < net.n → c (role net r w p) ≤ c (r (root_of net p))
    unfolding said
    from_root told p h = rw (← at_root p h) (rising said up p h)
      where
        up : (x : ℕ) → x < net.n → said x ≤ said (net.parent x)
        up x l =
            root_or_child (said x ≤ said (net.parent x)) x l (λ e. rw e (le_refl (said x)))
            (λ e _. rw (if_b_no (is_root net x) (r x) (w x) e) (told x))

    -- d p is the delivery of p's word to its parent
    pub to_root :
        (d : ℕ → Act) → ((p : ℕ) → Every (λ k. c (role net r w p) ≤ c (d k)) (children net p)) → ((p : ℕ) → c (d p) ≤ c (w p))
        → (p : ℕ) → p < net.n → c (r (root_of net p)) ≤ c (role net r w p)
    unfolding said
    to_root d waits sent p h = rw (← at_root p h) (falling said down p h)
      where
        down : (x : ℕ) → x < net.n → said (net.parent x) ≤ said x
        down x l =
            root_or_child (said (net.parent x) ≤ said x) x l (λ e. rw e (le_refl (said x)))
            (λ e here.
            rw (if_b_no (is_root net x) (r x) (w x) e)
            (le_trans (here (λ k. said (net.parent x) ≤ c (d k)) (waits (net.parent x))) (sent x)))
