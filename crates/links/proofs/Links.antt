-- The tests of the link list and the propositions beside them say the same; a link joins its ends both ways.
-- Assumes nothing.
use Prim.Native.Nat.{ℕ, ◌<◌}
use native.Mathlib.Omega.{arith}
use native.Mathlib.Decide.{dec_lt}
use mathlib.Core.Path.{◌≡◌, refl, ◌∙◌}
use mathlib.Core.Logic.{◌↔◌}
use mathlib.Core.Bool.{Bool, true, false}
use mathlib.Core.List.{List}
use lib.ListN.{get_or}
use lib.Dec.{eqb}
use borrow.Author.Tests.{lt-ltb, ltb-true, eq-eqb, eqb-true}
use Rattle.laws.specs.Below.{first_of}
use Rattle.laws.proofs.Choice.{if_b_yes, if_eq_yes, b_elim, eq_elim, true_not_false}
use Rattle.laws.proofs.Below.{first_le, first_passes, first_below}
use Rattle.nodeset.specs.Marks.{member}
use Rattle.network.specs.Sets.{link_set, Ends, rising, falling}
use Rattle.network.proofs.Sets.{link_set_from, link_set_to}
use Rattle.links.specs.Links.{pair_is, joins, link_between, has_link, SamePair, straight, crossed, Linked}

-- ---- two numbers in whichever order

pair_both : (a b p q : ℕ) → pair_is a b p q ≡ true → (a ≡ p) × (b ≡ q)
unfolding pair_is
pair_both a b p q =
    eq_elim (λ t. t ≡ true → (a ≡ p) × (b ≡ q)) a p (eqb b q) false (λ e f. (e, eqb-true b q f)) (λ _ f. absurd (true_not_false false f refl))

both_pair : (a b p q : ℕ) → a ≡ p → b ≡ q → pair_is a b p q ≡ true
unfolding pair_is
both_pair a b p q e f = if_eq_yes a p (eqb b q) false e ∙ eq-eqb b q f

pub joins_pair : (a b p q : ℕ) → joins a b p q ≡ true → SamePair a b p q
unfolding joins
joins_pair a b p q =
    b_elim (λ t. t ≡ true → SamePair a b p q) (pair_is a b p q) true (pair_is a b q p)
    (λ e _. straight (pair_both a b p q e).0 (pair_both a b p q e).1)
    (λ _ e. crossed (pair_both a b q p e).0 (pair_both a b q p e).1)

pub pair_joins : (a b p q : ℕ) → SamePair a b p q → joins a b p q ≡ true
unfolding joins
pair_joins a b p q (straight e f) = if_b_yes (pair_is a b p q) true (pair_is a b q p) (both_pair a b p q e f)
pair_joins a b p q (crossed e f) =
    b_elim (λ t. t ≡ true) (pair_is a b p q) true (pair_is a b q p) (λ _. refl) (λ _. both_pair a b q p e f)

pub pair_sym : {a b p q : ℕ} → SamePair a b p q → SamePair a b q p
pair_sym (straight e f) = crossed e f
pair_sym (crossed e f) = straight e f

pub pair_of : {a b c d p q : ℕ} → c ≡ a → d ≡ b → SamePair a b p q → SamePair c d p q
pair_of x y (straight e f) = straight (x ∙ e) (y ∙ f)
pair_of x y (crossed e f) = crossed (x ∙ e) (y ∙ f)

-- ---- some link joins p and q

module _ (lowers uppers : List ℕ) (n : ℕ) where
  place : {l p q : ℕ} → SamePair (get_or lowers l 0) (get_or uppers l 0) p q → Ends lowers uppers l p q
  place (straight e f) = rising e f
  place (crossed e f) = falling e f

  ends_pair : {l p q : ℕ} → Ends lowers uppers l p q → SamePair (get_or lowers l 0) (get_or uppers l 0) p q
  ends_pair (rising e f) = straight e f
  ends_pair (falling e f) = crossed e f

  pub linked_sym : {p q : ℕ} → Linked lowers uppers n p q → Linked lowers uppers n q p
  linked_sym l = record { link = l.link; below = l.below; ends = place (pair_sym (ends_pair l.ends)) }

  pub has_link_linked : (p q : ℕ) → has_link lowers uppers n p q ≡ true → Linked lowers uppers n p q
  unfolding has_link link_between
  has_link_linked p q e =
      let t : ℕ → Bool = λ l. joins (get_or lowers l 0) (get_or uppers l 0) p q in
      let h : first_of t n < n = ltb-true (first_of t n) n e in
      record { link = first_of t n; below = h; ends = place (joins_pair (get_or lowers (first_of t n) 0) (get_or uppers (first_of t n) 0) p q (first_passes t n h)) }

  pub linked_has_link : (p q : ℕ) → Linked lowers uppers n p q → has_link lowers uppers n p q ≡ true
  unfolding has_link link_between
  linked_has_link p q l = lt-ltb (first_of t n) n (at (dec_lt (first_of t n) n))
    where
      t : ℕ → Bool
      t k = joins (get_or lowers k 0) (get_or uppers k 0) p q

      at : Dec (first_of t n < n) → first_of t n < n
      at (yes h) = h
      at (no h) =
          absurd (true_not_false (t l.link) (pair_joins (get_or lowers l.link 0) (get_or uppers l.link 0) p q (ends_pair l.ends)) (first_below t n l.link (omega (arith, first_le t n, l.below))))

  -- p and q are linked exactly if q is in p's neighbour set
  pub linked_exactly : (flags : List ℕ) (p q : ℕ) → q < 64 → Linked lowers uppers n p q ↔ (member (link_set lowers uppers flags 0 n p) q ≡ true)
  linked_exactly flags p q h =
      (λ l. link_set_to lowers uppers flags 0 n l.link p q l.below (omega arith) l.ends h, λ m. let x = link_set_from lowers uppers flags 0 n p q m in record { link = x.0; below = x.1; ends = x.2.1 })
