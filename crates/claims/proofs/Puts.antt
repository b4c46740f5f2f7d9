-- One entry more in the lists is one claim more: a node's turn is its place among the entries, and the marks say who has none.
-- Assumes nothing.
use Prim.Native.Nat.{ℕ, ◌+◌, ◌^◌, ◌<◌, ◌≤◌}
use native.Mathlib.Omega.{arith}
use native.Mathlib.Decide.{ℕ_discrete}
use mathlib.Core.Path.{◌≡◌, refl, sym, ◌∙◌, ap}
use mathlib.Core.Bool.{Bool, true, false}
use lib.ListN.{length, get_or, set, length-set}
use lib.Seq.{get_or-set_same, get_or-set_other}
use lib.Dec.{eqb}
use borrow.Author.Tests.{eq-eqb, ne_eqb, eqb-true, eqb-false}
use Rattle.laws.proofs.Choice.{true_not_false}
use Rattle.laws.proofs.Below.{below_split, first_found, first_none, first_passes, first_below}
use Rattle.nodeset.specs.Marks.{member, removed}
use Rattle.nodeset.proofs.Marks.{member_below, removed_is_out, removed_keeps_others, removed_fits}
use Rattle.claims.specs.Claiming.{Claiming, put, place_of, claims_of}
use Rattle.claims.proofs.Begun.{OneMore}

-- ---- places

module _ (f : ℕ → ℕ) (m : ℕ) where
  place_at : (q : ℕ) → place_of f m q < m → f (place_of f m q) ≡ q
  unfolding place_of
  place_at q h = eqb-true (f (place_of f m q)) q (first_passes (λ k. eqb (f k) q) m h)

  place_before : (q k : ℕ) → k < place_of f m q → f k ≡ q → ⊥
  unfolding place_of
  place_before q k h = eqb-false (f k) q (first_below (λ j. eqb (f j) q) m k h)

  place_is : (q k : ℕ) → k < m → f k ≡ q → ((j : ℕ) → j < k → f j ≡ q → ⊥) → place_of f m q ≡ k
  unfolding place_of
  place_is q k h e none =
      sym (first_found (λ j. eqb (f j) q) m k h (first_none (λ j. eqb (f j) q) k (λ j l. ne_eqb (f j) q (none j l))) (eq-eqb (f k) q e))

  place_none : (q : ℕ) → ((j : ℕ) → j < m → f j ≡ q → ⊥) → place_of f m q ≡ m
  unfolding place_of
  place_none q none = first_none (λ j. eqb (f j) q) m (λ j l. ne_eqb (f j) q (none j l))

-- ---- the lists

-- the lists have a place for each of n nodes, no node past them has a parent, and the marks say who is unclaimed
pub record Filled (n : ℕ) (s : Claiming) : Type 0 where
  pub few : n ≤ 64
  pub order_length : length s.order ≡ 64
  pub by_length : length s.by ≡ 64
  pub deep_length : length s.deep ≡ 64
  pub past : (p : ℕ) → n ≤ p → get_or s.by p 0 ≡ 0
  pub marks_fit : s.unclaimed.marks < 2 ^ 64
  pub nodes : (p : ℕ) → member s.unclaimed.marks p ≡ true → p < n
  pub marked : (p : ℕ) → member s.unclaimed.marks p ≡ true → s.count ≤ (claims_of s).when p
  pub unmarked : (p : ℕ) → p < n → member s.unclaimed.marks p ≡ false → (claims_of s).when p < s.count

-- who is unclaimed has a mark
pub free_marked : {n : ℕ} {s : Claiming} → Filled n s → (p : ℕ) → p < n → s.count ≤ (claims_of s).when p → member s.unclaimed.marks p ≡ true
free_marked {n} {s} filled p h l = at (member s.unclaimed.marks p) refl
  where
    at : (t : Bool) → member s.unclaimed.marks p ≡ t → t ≡ true
    at true e = refl
    at false e = absurd (omega (arith, filled.unmarked p h e))

-- one entry more is one claim more
module _ {n : ℕ} {s : Claiming} (filled : Filled n s) (room : s.count < n) (x p v : ℕ) (free : member s.unclaimed.marks p ≡ true) where
  abbrev m : ℕ
  m = s.count

  abbrev left : ℕ
  left = s.unclaimed.marks

  abbrev old : ℕ → ℕ
  old k = get_or s.order k 0

  abbrev new : ℕ → ℕ
  new k = get_or (set s.order s.count p) k 0

  new_old : (k : ℕ) → k < m → new k ≡ old k
  new_old k l = get_or-set_other s.order m k p 0 (λ e. omega arith)

  new_here : new m ≡ p
  new_here = get_or-set_same s.order m p 0 (omega (arith, filled.order_length, filled.few))

  pub put_more : OneMore n (claims_of s) (claims_of (put x p v s)) s.count p x v
  unfolding put
  put_more =
      record {
        node = filled.nodes p free;
        fresh = filled.marked p free;
        order_new = new_here;
        order_old = new_old;
        when_new = place_is new (m + 1) p m (omega arith) new_here (λ j l e. place_before old m p j (omega (arith, filled.marked p free)) (sym (new_old j l) ∙ e));
        when_old = λ q _ l. earlier q l;
        when_later = λ q _ l a. later q l a;
        by_new = get_or-set_same s.by p x 0 (omega (arith, filled.by_length, member_below left p free));
        by_old = λ q a. get_or-set_other s.by p q x 0 a;
        deep_new = get_or-set_same s.deep p v 0 (omega (arith, filled.deep_length, member_below left p free));
        deep_old = λ q a. get_or-set_other s.deep p q v 0 a;
      }
    where
      earlier : (q : ℕ) → place_of old m q < m → place_of new (m + 1) q ≡ place_of old m q
      earlier q l =
          place_is new (m + 1) q (place_of old m q) (omega arith) (new_old (place_of old m q) l ∙ place_at old m q l)
          (λ j k e. place_before old m q j k (sym (new_old j (omega arith)) ∙ e))

      later : (q : ℕ) → m ≤ place_of old m q → (q ≡ p → ⊥) → m < place_of new (m + 1) q
      later q l a = omega (arith, place_none new (m + 1) q nowhere)
        where
          nowhere : (j : ℕ) → j < m + 1 → new j ≡ q → ⊥
          nowhere j i =
              below_split (λ k. new k ≡ q → ⊥) m j (omega arith) (λ b e. place_before old m q j (omega arith) (sym (new_old j b) ∙ e))
              (λ e. a (sym e ∙ new_here))

  pub put_filled : Filled n (put x p v s)
  unfolding put
  put_filled =
      record {
        few = filled.few;
        order_length = length-set s.order m p ∙ filled.order_length;
        by_length = length-set s.by p x ∙ filled.by_length;
        deep_length = length-set s.deep p v ∙ filled.deep_length;
        past = λ q l. get_or-set_other s.by p q x 0 (λ e. omega (arith, filled.nodes p free)) ∙ filled.past q l;
        marks_fit = removed_fits left p filled.marks_fit;
        nodes = λ q e. filled.nodes q (was q e);
        marked = λ q e. marked q e;
        unmarked = λ q i e. unmarked q i e (ℕ_discrete q p);
      }
    where
      when' : ℕ → ℕ
      when' = (claims_of (put x p v s)).when

      -- p is claimed now
      other : (q : ℕ) → member (removed left p) q ≡ true → q ≡ p → ⊥
      other q e f = true_not_false (member (removed left p) q) e (ap (member (removed left p)) f ∙ removed_is_out left p)

      was : (q : ℕ) → member (removed left p) q ≡ true → member left q ≡ true
      was q e = sym (removed_keeps_others left p q (other q e)) ∙ e

      marked : (q : ℕ) → member (removed left p) q ≡ true → m + 1 ≤ when' q
      marked q e =
          omega (arith, put_more.when_later q (filled.nodes q (was q e)) (filled.marked q (was q e)) (other q e))

      unmarked : (q : ℕ) → q < n → member (removed left p) q ≡ false → Dec (q ≡ p) → when' q < m + 1
      unmarked q i e (yes f) = omega (arith, ap when' f, put_more.when_new)
      unmarked q i e (no a) =
          let l = filled.unmarked q i (sym (removed_keeps_others left p q a) ∙ e) in
          omega (arith, l, put_more.when_old q i l)
