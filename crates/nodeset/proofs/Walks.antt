-- A walk over a set from its lowest member up, with a test of each: the laws of such a loop. What holds of the set holds of the lowest member
-- and of the set without it.
-- Assumes nothing.
use Prim.Native.Nat.{ℕ, ◌^◌, ◌<◌}
use native.Mathlib.Omega.{arith}
use native.Mathlib.Decide.{ℕ_discrete}
use mathlib.Core.Path.{◌≡◌, sym, ◌∙◌, ap, subst}
use mathlib.Core.Bool.{true, false}
use mathlib.Core.List.{List}
use lib.Dec.{eqb}
use borrow.Author.Tests.{eqb-false}
use lib.ListN.{length, get_or, set}
use lib.Seq.{get_or-set_same, get_or-set_other}
use Rattle.nodeset.specs.Marks.{member, removed, lowest_of, size_of}
use Rattle.nodeset.specs.Walks.{Taken}
use Rattle.laws.proofs.Choice.{true_not_false}
use Rattle.nodeset.proofs.Marks.{lowest_is_in, lowest_below, removed_keeps_others, empty_has_none}
use Rattle.nodeset.proofs.Members.{size_rest}

module _ (m q : ℕ) (low : q ≡ lowest_of m) where
  pub lowest_low : 0 < m → m < 2 ^ 64 → q < 64
  lowest_low p f = subst (λ k. k < 64) (sym low) (lowest_below m p f)

  pub lowest_in : 0 < m → m < 2 ^ 64 → member m q ≡ true
  lowest_in p f = subst (λ k. member m k ≡ true) (sym low) (lowest_is_in m (lowest_below m p f))

-- a step of `NodeSet::members`, and that it leaves one member fewer
pub takes : (left q rest : ℕ) → false ≡ eqb left 0 → left < 2 ^ 64 → q ≡ lowest_of left → rest ≡ removed left (lowest_of left) → Taken left q rest
takes left q rest some f low e =
    let p : 0 < left = omega (arith, eqb-false left 0 (sym some)) in
    record {
      lowest = low;
      is_in = lowest_in left q low p f;
      below_64 = lowest_low left q low p f;
      others = e ∙ ap (removed left) (sym low);
    }

pub fewer : (left q rest : ℕ) → Taken left q rest → size_of rest < size_of left
fewer left q rest t = omega (arith, size_rest left q t.is_in, ap size_of t.others)

-- ---- a walk that fills a table by member: what stands at each member passed is what f gives there

module _ (f : ℕ → ℕ) (all : ℕ) where
  -- f at every member of the whole set that is not in the set left
  pub Filled : ℕ → List ℕ → Type 0
  Filled left xs = (k : ℕ) → member all k ≡ true → member left k ≡ false → get_or xs k 0 ≡ f k

  pub fill_start : (xs : List ℕ) → Filled all xs
  unfolding Filled
  fill_start xs k i o = absurd (true_not_false (member all k) i o)

  pub fill_on : (m q rest v : ℕ) (xs : List ℕ) → q ≡ lowest_of m → q < length xs → v ≡ f q → rest ≡ removed m (lowest_of m) → Filled m xs → Filled rest (set xs q v)
  unfolding Filled
  fill_on m q rest v xs low h e r filled k i o = at (ℕ_discrete k q)
    where
      at : Dec (k ≡ q) → get_or (set xs q v) k 0 ≡ f k
      at (yes s) = subst (λ j. get_or (set xs q v) j 0 ≡ f j) (sym s) (get_or-set_same xs q v 0 h ∙ e)
      at (no d) =
          get_or-set_other xs q k v 0 d
          ∙ filled k i (sym (removed_keeps_others m q k d) ∙ ap (λ j. member (removed m j) k) low ∙ ap (λ s. member s k) (sym r) ∙ o)

  -- the same at a step of `NodeSet::members`
  pub fill_taken : (left q rest v : ℕ) (xs : List ℕ) → Taken left q rest → q < length xs → v ≡ f q → Filled left xs → Filled rest (set xs q v)
  fill_taken left q rest v xs t h e filled =
      fill_on left q rest v xs t.lowest h e (t.others ∙ ap (removed left) t.lowest) filled

  pub fill_end : (m : ℕ) (xs : List ℕ) → m ≡ 0 → Filled m xs → (k : ℕ) → member all k ≡ true → get_or xs k 0 ≡ f k
  unfolding Filled
  fill_end m xs e filled k i = filled k i (ap (λ s. member s k) e ∙ empty_has_none k)
