-- What W4 adds to the promise: "Lay out the clusters from the wire list", for any bytes, any depth and any buffer. `proofs/Promise_W4.antt` proves it of
-- `layout::layout` and of `teravulk_layout`, and what follows from it.
-- Assumes nothing.
use Rattle.std.specs.Prelude.{ℕ, ◌<◌, ◌≡◌, List, [], ◌∷◌, length}
use Rattle.layout.specs.Answers.{LayoutAnswer, Written}

pub record LayoutPromise (bytes : List ℕ) (depth : ℕ) (before : List ℕ) (number place : ℕ) (after : List ℕ) : Type 0 where
  -- "Refusals, in order: 1 to 5 as before, 10, then 22 depth above 63, 23 buffer shorter than the plan, both with place 0"
  pub answer : LayoutAnswer bytes depth (length before) number place
  -- "a refused layout writes nothing"
  pub refused : 0 < number → after ≡ before
  -- the plan with its clusters laid out by the claim rule and its first links preferred; "an accepted one nothing past the plan"
  pub written : number ≡ 0 → Written bytes depth before place after

-- "Numbers that come back" from a layout
abbrev pub layout_numbers : List ℕ
layout_numbers = 0 ∷ 1 ∷ 2 ∷ 3 ∷ 4 ∷ 5 ∷ 10 ∷ 22 ∷ 23 ∷ []
