-- What comes back of a layout names one result of the code alone.
-- Assumes nothing.
use Prim.Native.Nat.{ℕ}
use mathlib.Core.Path.{◌≡◌, sym, ap}
use Rattle.std.specs.Prelude.{Result, Ok, Err}
use Rattle.answers.specs.declared.Refused.{Refused}
use Rattle.answers.proofs.Named.{number_of-injective}
use Rattle.records.proofs.Turns.{refusal_is_no_0}
use Rattle.layout.specs.Laid.{Laid, laid_of}

pub laid_of-injective : (a b : Result ℕ Refused) → laid_of a ≡ laid_of b → a ≡ b
laid_of-injective (Ok m) (Ok n) e = ap Ok (ap (λ (x : Laid). x.place) e)
laid_of-injective (Ok m) (Err f) e = absurd (refusal_is_no_0 f.refusal (sym (ap (λ (x : Laid). x.number) e)))
laid_of-injective (Err d) (Ok n) e = absurd (refusal_is_no_0 d.refusal (ap (λ (x : Laid). x.number) e))
laid_of-injective (Err d) (Err f) e =
    let refusal = number_of-injective d.refusal f.refusal (ap (λ (x : Laid). x.number) e) in
    let place = ap (λ (x : Laid). x.place) e in
    ap Err (λ i. record { refusal = refusal i; place = place i })
