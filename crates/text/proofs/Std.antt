-- std's digits of a number are ours.
-- Assumes nothing.
use Prim.Native.Nat.{ℕ, ◌+◌, ◌^◌, ◌<◌, ◌%◌}
use mathlib.Core.Path.{◌≡◌, sym, ap, ◌∙◌}
use mathlib.Core.List.{[], ◌∷◌, ◌++◌}
use Rattle.std.specs.Fmt.{decimal as std_decimal}
use Rattle.std.proofs.lemmas.Fmt.{decimal_by_steps}
use Rattle.text.specs.Lines.{glyph, decimal}
use Rattle.text.proofs.Decimal.{one_digit, more_digits}

pub same_decimal : (n : ℕ) → n < 2 ^ 64 → std_decimal n ≡ decimal n
unfolding glyph
same_decimal =
    decimal_by_steps (λ m ds. ds ≡ decimal m) (λ m l. sym (one_digit m l))
    (λ m ds l h. ap (λ front. front ++ (48 + m % 10) ∷ []) h ∙ sym (more_digits m l))
