-- What a word's promise comes to: it allows one answer and one content of each buffer; a stream with nothing in it leaves its buffer as it was; and a
-- buffer with room for a stream holds it whole, in the bytes that the answer counts.
-- Assumes nothing.
use Prim.Native.Nat.{ℕ, ◌≤◌}
use native.Mathlib.Omega.{arith}
use mathlib.Core.Path.{◌≡◌, refl, sym, ◌∙◌, ap, ap₂}
use mathlib.Core.List.{List, [], ◌++◌}
use lib.ListN.{length, take, drop}
use lib.Seq.{take_at}
use Rattle.laws.proofs.Choice.{if_lt_no}
use Rattle.report.specs.Report.{written_in, filled_by}
use Rattle.report.proofs.Printed.{written_within, filled_length}
use Rattle.commands.specs.declared.Printed.{Printed}
use Rattle.commands.specs.Streams.{Streams, Fits, Prints}

module _ {s : Streams} {output errors : List ℕ} where
  pub prints_unique :
      {x y : Printed} {o p e f : List ℕ} → Prints s output errors x o e → Prints s output errors y p f → (x ≡ y) × (o ≡ p) × (e ≡ f)
  prints_unique a b = (a.counts ∙ sym b.counts, a.on_output ∙ sym b.on_output, a.on_errors ∙ sym b.on_errors)

  -- the answer counts bytes of the buffers
  pub counts_within :
      {x : Printed} {o e : List ℕ} → Prints s output errors x o e → (x.output ≤ length o) × (x.errors ≤ length e)
  counts_within p = (
    omega (arith, ap (λ r. r.output) p.counts, written_within (length output) s.output, ap length p.on_output, filled_length output s.output),
    omega (arith, ap (λ r. r.errors) p.counts, written_within (length errors) s.errors, ap length p.on_errors, filled_length errors s.errors),
  )

module _ (out : List ℕ) where
  pub nothing_written : 0 ≡ written_in (length out) []
  unfolding written_in
  nothing_written = sym (if_lt_no (length out) 0 0 0 (omega arith))

  pub nothing_filled : out ≡ filled_by out []
  unfolding filled_by
  nothing_filled = sym (if_lt_no (length out) 0 out out (omega arith))

  -- the bytes that are counted of a buffer with room for the text are the text
  counted : (text : List ℕ) → length text ≤ length out → take (written_in (length out) text) (filled_by out text) ≡ text
  unfolding written_in filled_by
  counted text h =
      rw (if_lt_no (length out) (length text) 0 (length text) h, if_lt_no (length out) (length text) out (text ++ drop (length text) out) h)
      (take_at text (drop (length text) out) (length text) refl)

-- what the program writes, by the counts, of buffers that are long enough: the two streams
pub streams_whole :
    {s : Streams} {output errors o e : List ℕ} {x : Printed} → Prints s output errors x o e → Fits (length output) (length errors) s
    → (take x.output o ≡ s.output) × (take x.errors e ≡ s.errors)
streams_whole {s} {output} {errors} p f = (
  ap₂ (λ n xs. take n xs) (ap (λ r. r.output) p.counts) p.on_output ∙ counted output s.output f.output_fits,
  ap₂ (λ n xs. take n xs) (ap (λ r. r.errors) p.counts) p.on_errors ∙ counted errors s.errors f.errors_fit,
)
