-- A walk over the members of a set, the lowest first. It is known by the marks of the members that are left.
-- Assumes nothing.
use Rattle.std.specs.Prelude.{ℕ, ◌<◌, ◌≡◌, true, Option, MatchOption}
use Rattle.nodeset.specs.Marks.{member, removed, lowest_of}

-- the member that a step takes out of those left, and those left behind it
pub record Taken (left q rest : ℕ) : Type 0 where
  pub lowest : q ≡ lowest_of left
  pub is_in : member left q ≡ true
  pub below_64 : q < 64
  pub others : rest ≡ removed left q

-- a step takes the lowest member out of those left; where none is left there is none to take
abbrev pub takes_lowest : ℕ → Option ℕ → ℕ → Type 0
takes_lowest left taken rest =
    MatchOption taken ((left ≡ 0) × (rest ≡ 0)) (λ q. Taken left q rest)
