-- A node claims its unclaimed neighbours, the lowest first: the laws of that loop. Each claim takes one node from the unclaimed, so as many turns as
-- there are unclaimed nodes leave no neighbour unclaimed.
-- Assumes nothing.
use Prim.Native.Nat.{ℕ, zero, suc, ◌^◌, ◌<◌, ◌≤◌}
use native.Mathlib.Omega.{arith}
use mathlib.Core.Path.{◌≡◌, refl, sym, ◌∙◌, ap, subst}
use mathlib.Core.Bool.{true}
use lib.Bits.{bit_and}
use Rattle.laws.proofs.Choice.{if_eq_yes, if_eq_no, eq_elim, true_not_false}
use Rattle.nodeset.specs.Marks.{member, removed, size_of, lowest_of}
use Rattle.nodeset.specs.Walks.{Taken}
use Rattle.nodeset.proofs.Marks.{empty_has_none, removed_fits}
use Rattle.nodeset.proofs.Members.{size_rest}
use Rattle.claims.specs.Claiming.{Claiming, put, unclaimed_of, claims_each, claims_all}
use Rattle.claims.proofs.Marks.{in_second, common_rest, one_fewer}

module _ (neighbours x v : ℕ) where
  -- the next claim
  abbrev pub next : Claiming → Claiming
  next s = put x (lowest_of (unclaimed_of neighbours s)) v s

  -- somebody is left to claim
  abbrev pub SomeLeft : Claiming → Type 0
  SomeLeft s = unclaimed_of neighbours s ≡ 0 → ⊥

  abbrev left : Claiming → ℕ
  left s = s.unclaimed.marks

  pub next_fewer : (s : Claiming) → left s < 2 ^ 64 → SomeLeft s → size_of (left s) ≡ suc (size_of (left (next s)))
  unfolding put
  next_fewer s fits some = one_fewer neighbours (left s) fits some

  -- ---- one turn of the loop: nobody is left ..

  each_end : (turns : ℕ) (s : Claiming) → unclaimed_of neighbours s ≡ 0 → claims_each turns neighbours x v s ≡ s
  unfolding claims_each
  each_end zero s e = refl
  each_end (suc turns) s e = if_eq_yes (unclaimed_of neighbours s) 0 s (claims_each turns neighbours x v (next s)) e

  pub claims_end : (s : Claiming) → unclaimed_of neighbours s ≡ 0 → claims_all neighbours x v s ≡ s
  unfolding claims_all
  claims_end s = each_end (size_of (left s)) s

  -- .. or the lowest is claimed, as the walk over those left takes it, and the rest after it
  module _ (s : Claiming) (left q rest : ℕ) (are : left ≡ unclaimed_of neighbours s) (taken : Taken left q rest) where
    in_common : member (bit_and neighbours s.unclaimed.marks) q ≡ true
    in_common = subst (λ m. member m q ≡ true) are taken.is_in

    -- who is claimed was unclaimed
    pub taken_free : member s.unclaimed.marks q ≡ true
    taken_free = in_second neighbours s.unclaimed.marks q in_common

    pub taken_rest : neighbours < 2 ^ 64 → rest ≡ unclaimed_of neighbours (put x q v s)
    unfolding put
    taken_rest fits = taken.others ∙ ap (λ m. removed m q) are ∙ common_rest neighbours s.unclaimed.marks q fits

    pub claims_on : claims_all neighbours x v s ≡ claims_all neighbours x v (put x q v s)
    unfolding claims_all claims_each put
    claims_on =
        ap (λ turns. claims_each turns neighbours x v s) (size_rest s.unclaimed.marks q taken_free)
        ∙ if_eq_no (unclaimed_of neighbours s) 0 s (claims_each (size_of (removed s.unclaimed.marks q)) neighbours x v (next s)) some
        ∙ ap (λ p. claims_each (size_of (removed s.unclaimed.marks q)) neighbours x v (put x p v s)) (sym (taken.lowest ∙ ap lowest_of are))
      where
        some : unclaimed_of neighbours s ≡ 0 → ⊥
        some none = true_not_false (member 0 q) (subst (λ m. member m q ≡ true) none in_common) (empty_has_none q)

  -- ---- the whole loop

  -- what each claim keeps, all keep
  module _ (P : Claiming → Type 0) (kept : (s : Claiming) → SomeLeft s → P s → P (next s)) where
    each_keeps : (turns : ℕ) (s : Claiming) → P s → P (claims_each turns neighbours x v s)
    unfolding claims_each
    each_keeps zero s p = p
    each_keeps (suc turns) s p =
        eq_elim P (unclaimed_of neighbours s) 0 s (claims_each turns neighbours x v (next s)) (λ _. p) (λ some. each_keeps turns (next s) (kept s some p))

    pub claims_keep : (s : Claiming) → P s → P (claims_all neighbours x v s)
    unfolding claims_all
    claims_keep s = each_keeps (size_of (left s)) s

  each_empties : (turns : ℕ) (s : Claiming) → left s < 2 ^ 64 → size_of (left s) ≤ turns → unclaimed_of neighbours (claims_each turns neighbours x v s) ≡ 0
  unfolding claims_each put
  each_empties zero s fits enough =
      let some : 0 < unclaimed_of neighbours s → ⊥ = λ h. omega (arith, next_fewer s fits (λ e. omega arith)) in
      omega arith
  each_empties (suc turns) s fits enough =
      eq_elim (λ r. unclaimed_of neighbours r ≡ 0) (unclaimed_of neighbours s) 0 s (claims_each turns neighbours x v (next s)) (λ e. e)
      (λ some. each_empties turns (next s) (removed_fits (left s) (lowest_of (unclaimed_of neighbours s)) fits) (omega (arith, next_fewer s fits some)))

  pub none_left : (s : Claiming) → left s < 2 ^ 64 → unclaimed_of neighbours (claims_all neighbours x v s) ≡ 0
  unfolding claims_all
  none_left s fits = each_empties (size_of (left s)) s fits (omega arith)
