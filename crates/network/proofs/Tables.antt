-- The table of sets, filled link by link and node by node, holds at each place the set that the definition gives that place.
-- Assumes nothing.
use Prim.Native.Nat.{ℕ, ◌+◌, ◌<◌, ◌≤◌}
use native.Mathlib.Omega.{arith}
use mathlib.Core.Path.{◌≡◌, refl, sym, ◌∙◌, ap, subst}
use mathlib.Core.List.{List}
use mathlib.Core.Logic.{◌⊎◌, inl, inr}
use lib.ListN.{length, get_or, set, replicate, length-set, length-replicate, get_or-replicate}
use lib.Seq.{get_or-set_same, get_or-set_other, set-get_or}
use lib.Dec.{eqb}
use Rattle.laws.specs.Choice.{if_lt, if_eq}
use Rattle.laws.specs.Below.{list_below}
use Rattle.laws.proofs.Choice.{if_lt_yes, if_lt_no, if_eq_yes, if_eq_no, lt_elim, eq_elim}
use Rattle.laws.proofs.Below.{list_is, list_at, length_list, fold_start, fold_more, all_same}
use Rattle.nodeset.specs.Marks.{inserted}
use Rattle.nodeset.proofs.Marks.{above_63_adds_nothing}
use Rattle.network.specs.Valid.{agrees}
use Rattle.network.specs.Sets.{towards, link_gives, link_set, child_set, added, linked, adopted}

-- ---- one more member

pub length_added : (sets : List ℕ) (x q : ℕ) → length (added sets x q) ≡ length sets
unfolding added
length_added sets x q =
    lt_elim (λ l. length l ≡ length sets) x 64 (set sets x (inserted (get_or sets x 0) q)) sets (λ _. length-set sets x (inserted (get_or sets x 0) q)) (λ _. refl)

pub added_at : (sets : List ℕ) (x q p : ℕ) → length sets ≡ 64 → p < 64 → get_or (added sets x q) p 0 ≡ towards x q p (get_or sets p 0)
unfolding added towards
added_at sets x q p n h =
    eq_elim (λ r. get_or (added sets x q) p 0 ≡ r) x p (inserted (get_or sets p 0) q) (get_or sets p 0)
    (λ e. ap (λ l. get_or l p 0) (if_lt_yes x 64 (set sets x (inserted (get_or sets x 0) q)) sets (omega arith)) ∙ subst (λ y. get_or (set sets y (inserted (get_or sets y 0) q)) p 0 ≡ inserted (get_or sets p 0) q) (sym e) (get_or-set_same sets p (inserted (get_or sets p 0) q) 0 (omega arith)))
    (λ d. lt_elim (λ l. get_or l p 0 ≡ get_or sets p 0) x 64 (set sets x (inserted (get_or sets x 0) q)) sets (λ _. get_or-set_other sets x p (inserted (get_or sets x 0) q) 0 (λ e. d (sym e))) (λ _. refl))

-- a number above 63 has no set, and as a member it changes none
added_past : (sets : List ℕ) (x q : ℕ) → 64 ≤ x → added sets x q ≡ sets
unfolding added
added_past sets x q h = if_lt_no x 64 (set sets x (inserted (get_or sets x 0) q)) sets h

added_above : (sets : List ℕ) (x q : ℕ) → 64 ≤ q → added sets x q ≡ sets
unfolding added
added_above sets x q h =
    lt_elim (λ l. l ≡ sets) x 64 (set sets x (inserted (get_or sets x 0) q)) sets (λ _. ap (set sets x) (above_63_adds_nothing (get_or sets x 0) q h) ∙ set-get_or sets x 0) (λ _. refl)

-- ---- one more link, one more child

pub length_linked : (sets : List ℕ) (a b flag least : ℕ) → length (linked sets a b flag least) ≡ length sets
unfolding linked
length_linked sets a b flag least =
    lt_elim (λ l. length l ≡ length sets) flag least sets (added (added sets a b) b a) (λ _. refl) (λ _. length_added (added sets a b) b a ∙ length_added sets a b)

pub linked_at : (sets : List ℕ) (a b flag least p : ℕ) → length sets ≡ 64 → p < 64 → get_or (linked sets a b flag least) p 0 ≡ if_lt flag least (get_or sets p 0) (link_gives a b p (get_or sets p 0))
unfolding linked link_gives
linked_at sets a b flag least p n h =
    lt_elim (λ r. get_or (linked sets a b flag least) p 0 ≡ r) flag least (get_or sets p 0) (link_gives a b p (get_or sets p 0))
    (λ l. ap (λ t. get_or t p 0) (if_lt_yes flag least sets (added (added sets a b) b a) l))
    (λ l. ap (λ t. get_or t p 0) (if_lt_no flag least sets (added (added sets a b) b a) l) ∙ added_at (added sets a b) b a p (length_added sets a b ∙ n) h ∙ ap (towards b a p) (added_at sets a b p n h))

-- a link with an end above 63 changes no table: that end has no set, and no set takes it in
pub linked_past : (sets : List ℕ) (a b flag least : ℕ) → (64 ≤ a) ⊎ (64 ≤ b) → sets ≡ linked sets a b flag least
unfolding linked
linked_past sets a b flag least past =
    lt_elim (λ l. sets ≡ l) flag least sets (added (added sets a b) b a) (λ _. refl) (λ _. none past)
  where
    none : (64 ≤ a) ⊎ (64 ≤ b) → sets ≡ added (added sets a b) b a
    none (inl h) = sym (ap (λ l. added l b a) (added_past sets a b h) ∙ added_above sets b a h)
    none (inr h) = sym (added_past (added sets a b) b a h ∙ added_above sets a b h)

pub length_adopted : (sets : List ℕ) (p q : ℕ) → length (adopted sets p q) ≡ length sets
unfolding adopted
length_adopted sets p q = eq_elim (λ l. length l ≡ length sets) p q sets (added sets p q) (λ _. refl) (λ _. length_added sets p q)

pub adopted_at : (sets : List ℕ) (x q p : ℕ) → length sets ≡ 64 → p < 64 → get_or (adopted sets x q) p 0 ≡ if_eq x q (get_or sets p 0) (towards x q p (get_or sets p 0))
unfolding adopted
adopted_at sets x q p n h =
    eq_elim (λ r. get_or (adopted sets x q) p 0 ≡ r) x q (get_or sets p 0) (towards x q p (get_or sets p 0))
    (λ e. ap (λ t. get_or t p 0) (if_eq_yes x q sets (added sets x q) e))
    (λ d. ap (λ t. get_or t p 0) (if_eq_no x q sets (added sets x q) d) ∙ added_at sets x q p n h)

-- ---- the whole table

module _ (lowers uppers flags : List ℕ) (least : ℕ) where
  pub links_start : replicate 64 0 ≡ list_below (link_set lowers uppers flags least 0) 64
  unfolding link_set
  links_start =
      list_is (link_set lowers uppers flags least 0) 64 (replicate 64 0) 0 (length-replicate {A = ℕ} 64 0)
      (λ k h. get_or-replicate 64 k 0 0 h ∙ sym (fold_start _ 0))

  pub links_more : (sets : List ℕ) (l : ℕ) → sets ≡ list_below (link_set lowers uppers flags least l) 64
      → linked sets (get_or lowers l 0) (get_or uppers l 0) (get_or flags l 0) least ≡ list_below (link_set lowers uppers flags least (l + 1)) 64
  unfolding link_set
  links_more sets l e =
      let n : length sets ≡ 64 = ap length e ∙ length_list (link_set lowers uppers flags least l) 64 in
      list_is (link_set lowers uppers flags least (l + 1)) 64 (linked sets (get_or lowers l 0) (get_or uppers l 0) (get_or flags l 0) least) 0 (length_linked sets (get_or lowers l 0) (get_or uppers l 0) (get_or flags l 0) least ∙ n)
      (λ p h. linked_at sets (get_or lowers l 0) (get_or uppers l 0) (get_or flags l 0) least p n h ∙ ap (λ s. if_lt (get_or flags l 0) least s (link_gives (get_or lowers l 0) (get_or uppers l 0) p s)) (ap (λ t. get_or t p 0) e ∙ list_at (link_set lowers uppers flags least l) 64 p 0 h) ∙ sym (fold_more (λ k s. if_lt (get_or flags k 0) least s (link_gives (get_or lowers k 0) (get_or uppers k 0) p s)) 0 l))

module _ (parents : List ℕ) where
  pub children_start : replicate 64 0 ≡ list_below (child_set parents 0) 64
  unfolding child_set
  children_start =
      list_is (child_set parents 0) 64 (replicate 64 0) 0 (length-replicate {A = ℕ} 64 0)
      (λ k h. get_or-replicate 64 k 0 0 h ∙ sym (fold_start _ 0))

  pub children_more : (sets : List ℕ) (q : ℕ) → sets ≡ list_below (child_set parents q) 64
      → adopted sets (get_or parents q 0) q ≡ list_below (child_set parents (q + 1)) 64
  unfolding child_set
  children_more sets q e =
      let n : length sets ≡ 64 = ap length e ∙ length_list (child_set parents q) 64 in
      list_is (child_set parents (q + 1)) 64 (adopted sets (get_or parents q 0) q) 0 (length_adopted sets (get_or parents q 0) q ∙ n)
      (λ p h. adopted_at sets (get_or parents q 0) q p n h ∙ ap (λ s. if_eq (get_or parents q 0) q s (towards (get_or parents q 0) q p s)) (ap (λ t. get_or t p 0) e ∙ list_at (child_set parents q) 64 p 0 h) ∙ sym (fold_more (λ k s. if_eq (get_or parents k 0) k s (towards (get_or parents k 0) k p s)) 0 q))

-- ---- comparing with the table is comparing with what the definition gives

pub agrees_with_table : (kept : List ℕ) (f : ℕ → ℕ) → agrees kept (λ p. get_or (list_below f 64) p 0) ≡ agrees kept f
unfolding agrees
agrees_with_table kept f =
    all_same (λ p. eqb (get_or kept p 0) (get_or (list_below f 64) p 0)) (λ p. eqb (get_or kept p 0) (f p)) 64 (λ p h. ap (eqb (get_or kept p 0)) (list_at f 64 p 0 h))

-- .. and so for a table that is filled from the lists
pub agrees_with_given : (kept given : List ℕ) (f : ℕ → ℕ) → given ≡ list_below f 64 → agrees kept (λ p. get_or given p 0) ≡ agrees kept f
agrees_with_given kept given f e = ap (λ l. agrees kept (λ p. get_or l p 0)) e ∙ agrees_with_table kept f
