-- "lowest such node", "first such link": the first number below n at which a rule is broken, or n where the rule is kept at all of them.
-- Each whole-plan check tells such a number, for its own rule.
-- Assumes nothing.
use Rattle.std.specs.Prelude.{ℕ, ◌<◌, ◌≤◌, Option, Some, None, nat_lt, if◌then◌else◌}

pub record Breach (Rule : ℕ → Type 0) (n w : ℕ) : Type 0 where
  pub within : w ≤ n
  pub broken : w < n → Rule w → ⊥
  pub kept_before : (k : ℕ) → k < w → Rule k

-- what a check answers where w is that number: its place, and none where the rule is kept at all n
abbrev pub place_in : ℕ → ℕ → Option ℕ
place_in n w = if nat_lt w n then Some w else None
