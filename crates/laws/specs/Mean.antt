-- How a new value comes from a node's own and its neighbours' values. Nothing else says how: an input, the lockstep table and the computed trials
-- all cite this page.
-- Assumes nothing.
use Rattle.std.specs.Prelude.{ℕ, ◌+◌, ◌-◌, ◌*◌, ◌/◌, ◌%◌, ◌≤◌, ◌≡◌, List, length}
use Rattle.laws.specs.Choice.{if_lt, if_eq}
use Rattle.laws.specs.Lists.{total}

-- "round to the nearest whole number, a half going to the even one" (document 02, W3): twice what the division leaves over says on which side of
-- the half the quotient lies
unfoldable pub share_of : ℕ → ℕ → ℕ
share_of sum count =
    if_lt count (2 * (sum % count)) (sum / count + 1)
    (if_eq (2 * (sum % count)) count (sum / count + sum / count % 2) (sum / count))

-- "(own value + the values .. from each neighbour) divided by (1 + number of neighbours)", rounded so
unfoldable pub rule_of : ℕ → List ℕ → ℕ
rule_of own others = share_of (own + total others) (1 + length others)

-- ---- the same for people

-- how far apart two numbers are
abbrev pub apart : ℕ → ℕ → ℕ
apart a b = (a - b) + (b - a)

-- x is what sum / count is rounded to. The quotient and every whole number are multiplied by the count, so that nothing is divided.
pub record Nearest (sum count x : ℕ) : Type 0 where
  -- "the nearest whole number": no other is nearer
  pub nearest : (y : ℕ) → apart sum (count * x) ≤ apart sum (count * y)
  -- "a half going to the even one": where another is as near, x is even
  pub even : (y : ℕ) → (x ≡ y → ⊥) → apart sum (count * x) ≡ apart sum (count * y) → x % 2 ≡ 0
