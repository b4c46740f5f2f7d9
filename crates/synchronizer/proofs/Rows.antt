-- The answer of a row, one test after the other: the laws by which the code's returns are the definition's.
-- Assumes nothing.
use Prim.Native.Nat.{ℕ, ◌<◌, ◌≤◌}
use mathlib.Core.Path.{◌≡◌, refl, sym, ◌∙◌, subst}
use mathlib.Core.Bool.{Bool, true, false}
use mathlib.Core.List.{List}
use Rattle.std.proofs.Common.{Result, Ok, Err}
use Rattle.laws.specs.Choice.{if_lt}
use Rattle.laws.proofs.Choice.{if_b_yes, if_b_no, if_lt_yes, if_lt_no}
use Rattle.answers.specs.declared.Refusal.{Refusal}
use Rattle.answers.specs.declared.Refusal.TheVariants.{NoSuchLink, NeedMissing}
use Rattle.answers.specs.Numbers.{number_of}
use Rattle.actions.specs.declared.Kind.{Kind}
use Rattle.actions.specs.Kinds.{count, count_in}
use Rattle.synchronizer.specs.Shown.{plain_answer, Shows}

module _ (counts : List ℕ) (k : Kind) (x : ℕ) where
  -- a refusal shows no more than its number
  pub shows_refused : (answer : ℕ) (e : Refusal) → number_of e ≡ answer → Shows counts k x answer (Err e)
  shows_refused answer e is = record { is = is; taken = tt }

  -- the same answer by another name
  pub shows_as : (a b : ℕ) (r : Result ℕ Refusal) → a ≡ b → Shows counts k x a r → Shows counts k x b r
  shows_as a b r e h = subst (λ answer. Shows counts k x answer r) e h

  module _ (stands : Bool) (n has rest : ℕ) where
    pub not_standing : stands ≡ false → Shows counts k x (plain_answer stands n has rest) (Err NoSuchLink)
    unfolding plain_answer
    not_standing f = shows_refused _ NoSuchLink (sym (if_b_no stands (if_lt n has rest 16) 14 f))

    pub short : stands ≡ true → has ≤ n → Shows counts k x (plain_answer stands n has rest) (Err NeedMissing)
    unfolding plain_answer
    short t h =
        shows_refused _ NeedMissing (sym (if_b_yes stands (if_lt n has rest 16) 14 t ∙ if_lt_no n has rest 16 h))

    module _ (t : stands ≡ true) (h : n < has) where
      enough : rest ≡ plain_answer stands n has rest
      unfolding plain_answer
      enough = sym (if_b_yes stands (if_lt n has rest 16) 14 t ∙ if_lt_yes n has rest 16 h)

      -- the rest of the row refuses
      pub rest_refuses : (e : Refusal) → number_of e ≡ rest → Shows counts k x (plain_answer stands n has rest) (Err e)
      rest_refuses e is = shows_refused _ e (is ∙ enough)

      pub rest_passes : 0 ≡ rest → count_in counts (count k x) < 65535 → Shows counts k x (plain_answer stands n has rest) (Ok x)
      rest_passes is b = record { is = is ∙ enough; taken = (refl, b) }
