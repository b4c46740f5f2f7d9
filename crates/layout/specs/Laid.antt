-- The answer to a layout, as document 02 hands it back: 0 and the plan's length, which is how many bytes were written; or the number of a refusal
-- and its place.
-- Assumes nothing.
use Rattle.std.specs.Prelude.{ℕ, Result, Ok, Err}
use Rattle.answers.specs.declared.Refused.{Refused}
use Rattle.answers.specs.Numbers.{number_of}

pub record Laid : Type 0 where
  pub number : ℕ
  pub place : ℕ

abbrev pub laid_of : Result ℕ Refused → Laid
laid_of (Ok written) = record { number = 0; place = written }
laid_of (Err e) = record { number = number_of e.refusal; place = e.place }
