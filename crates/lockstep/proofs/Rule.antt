-- The rule as the code computes it: what was heard from the members is summed over the set's marks, and the marks are counted.
-- Assumes nothing.
use Prim.Native.Nat.{ℕ, ◌+◌, ◌<◌}
use native.Mathlib.Omega.{arith}
use mathlib.Core.Path.{◌≡◌, sym, ap₂, subst}
use mathlib.Core.Logic.{◌↔◌}
use mathlib.Core.List.{List}
use lib.ListN.{length, get_or}
use Rattle.laws.specs.Lists.{total}
use Rattle.laws.specs.Mean.{share_of, rule_of, Nearest}
use Rattle.laws.proofs.Mean.{share_exactly, share_below}
use Rattle.nodeset.specs.Marks.{size_of, sum_in, values_in}
use Rattle.nodeset.proofs.Members.{sum_in_at_most, length_values, total_values}
use Rattle.lockstep.specs.Rule.{mean_of}

pub mean_by_marks : (m own : ℕ) (heard : List ℕ) → mean_of m own heard ≡ share_of (own + sum_in (λ q. get_or heard q 0) m) (1 + size_of m)
unfolding mean_of rule_of
mean_by_marks m own heard =
    ap₂ (λ s k. share_of (own + s) (1 + k)) (total_values (λ q. get_or heard q 0) m) (length_values (λ q. get_or heard q 0) m)

-- what `mean` promises, for people: the whole number nearest to the quotient, and of two that are as near the even one; no other number is that
pub mean_exactly : (m own : ℕ) (heard : List ℕ) (x : ℕ) → (x ≡ mean_of m own heard) ↔ Nearest (own + sum_in (λ q. get_or heard q 0) m) (1 + size_of m) x
mean_exactly m own heard x =
    let sum = own + sum_in (λ q. get_or heard q 0) m in
    subst (λ y. (x ≡ y) ↔ Nearest sum (1 + size_of m) x) (sym (mean_by_marks m own heard)) (share_exactly sum (1 + size_of m) x (omega arith))

-- of u16 values the rule makes a u16 value
pub rule_below : (f : ℕ → ℕ) (m own : ℕ) → own < 65536 → ((q : ℕ) → f q < 65536) → rule_of own (values_in f m) < 65536
unfolding rule_of
rule_below f m own o h =
    share_below (own + total (values_in f m)) (1 + length (values_in f m)) (omega arith)
    (omega (arith, total_values f m, length_values f m, sum_in_at_most f 65535 m (λ q _. omega (arith, h q))))
