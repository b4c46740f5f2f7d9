-- The list of links in one pass, each link held against the one before it. Before the first stands (0, 0): every link that fits rises above it, so
-- that the first needs no rule of its own.
-- Assumes nothing.
use Prim.Native.Nat.{ℕ, suc, ◌-◌, ◌<◌, ◌≤◌}
use native.Mathlib.Omega.{arith}
use mathlib.Core.Path.{◌≡◌, refl, sym, ◌∙◌, ap, ap₂}
use mathlib.Core.Bool.{Bool, true}
use mathlib.Core.List.{List}
use lib.Bits.{bit_or}
use lib.Dec.{eqb}
use lib.ListN.{get_or}
use borrow.Author.Tests.{ltb-true}
use Rattle.laws.specs.Choice.{both}
use Rattle.laws.proofs.Choice.{if_lt_yes, if_lt_no, if_eq_yes, if_eq_no, both_yes, both_left, same_test}
use Rattle.laws.proofs.Faults.{faults_or}
use Rattle.network.specs.Valid.{rises, link_fits, link_rises, link_stands}
use Rattle.network.proofs.Valid.{rises_of}

-- the link (a, b) stands before place l
pub data Before (lowers uppers : List ℕ) (l a b : ℕ) : Type 0 where
  none : l ≡ 0 → a ≡ 0 → b ≡ 0 → Before lowers uppers l a b
  last : (k : ℕ) → l ≡ suc k → a ≡ get_or lowers k 0 → b ≡ get_or uppers k 0 → Before lowers uppers l a b

fitting_rises : (nodes c d flag : ℕ) → link_fits nodes c d flag ≡ true → rises 0 0 c d ≡ true
unfolding link_fits
fitting_rises nodes c d flag e =
    let h = ltb-true c d (both_left _ _ e) in
    rises_of 0 0 c d (omega arith) (λ _. omega arith)

first_rises : (nodes c d flag : ℕ) → both (link_fits nodes c d flag) (rises 0 0 c d) ≡ both (link_fits nodes c d flag) true
first_rises nodes c d flag =
    same_test (both (link_fits nodes c d flag) (rises 0 0 c d)) (both (link_fits nodes c d flag) true) (λ e. both_yes _ _ (both_left _ _ e) refl)
    (λ e. let fits = both_left _ _ e in both_yes _ _ fits (fitting_rises nodes c d flag fits))

module _ (nodes links : ℕ) (lowers uppers flags : List ℕ) (l a b : ℕ) where
  abbrev c : ℕ
  c = get_or lowers l 0

  abbrev d : ℕ
  d = get_or uppers l 0

  abbrev fits : Bool
  fits = link_fits nodes c d (get_or flags l 0)

  rises_last : Before lowers uppers l a b → both fits (rises a b c d) ≡ both fits (link_rises lowers uppers l)
  unfolding link_rises
  rises_last (none z x y) =
      ap₂ (λ p q. both fits (rises p q c d)) x y ∙ first_rises nodes c d (get_or flags l 0) ∙ ap (both fits) (sym (if_eq_yes l 0 true _ z))
  rises_last (last k e x y) =
      let back : k ≡ l - 1 = omega arith in
      ap (both fits) (ap₂ (λ p q. rises p q c d) (x ∙ ap (λ j. get_or lowers j 0) back) (y ∙ ap (λ j. get_or uppers j 0) back) ∙ sym (if_eq_no l 0 true _ (λ z. omega arith)))

  -- a link in use stands where it fits and rises above the one before it
  pub stands_after : Before lowers uppers l a b → l < links → both fits (rises a b c d) ≡ link_stands nodes links lowers uppers flags l
  unfolding link_stands
  stands_after before h = rises_last before ∙ sym (if_lt_yes l links _ _ h)

-- and past those in use nothing stands
pub stands_past : (nodes links : ℕ) (lowers uppers flags : List ℕ) (l : ℕ) → links ≤ l → eqb (bit_or (get_or lowers l 0) (bit_or (get_or uppers l 0) (get_or flags l 0))) 0 ≡ link_stands nodes links lowers uppers flags l
unfolding link_stands
stands_past nodes links lowers uppers flags l h =
    faults_or (get_or lowers l 0) (bit_or (get_or uppers l 0) (get_or flags l 0)) _ _ refl (faults_or (get_or uppers l 0) (get_or flags l 0) _ _ refl refl) ∙ sym (if_lt_no l links _ _ h)
