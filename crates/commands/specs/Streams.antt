-- What the words of `desk` print, as a function of the bytes on standard input and the arguments.
-- Assumes nothing.
use Rattle.std.specs.Prelude.{ℕ, ◌≤◌, ◌≡◌, List, [], length, take}
use Rattle.laws.specs.Choice.{if_lt, if_eq}
use Rattle.layout.specs.Laid.{Laid}
use Rattle.layout.specs.Layout.{layout_of, laid_in}
use Rattle.report.specs.Lines.{end_line}
use Rattle.report.specs.Report.{written_in, filled_by}
use Rattle.commands.specs.declared.Printed.{Printed}

-- what goes to standard output, and what to standard error
pub record Streams : Type 0 where
  pub output : List ℕ
  pub errors : List ℕ

abbrev pub streams : List ℕ → List ℕ → Streams
streams output errors = record { output = output; errors = errors }

-- buffers of so many bytes are long enough
pub record Fits (output errors : ℕ) (s : Streams) : Type 0 where
  pub output_fits : length s.output ≤ output
  pub errors_fit : length s.errors ≤ errors

-- what a word's call promises of the two lent buffers: each holds its stream at its start, whole, or is as before where it has no room for the
-- whole; and the answer counts the bytes of each
pub record Prints (s : Streams) (output errors : List ℕ) (answer : Printed) (output_after errors_after : List ℕ) : Type 0 where
  pub counts : answer ≡ record { output = written_in (length output) s.output; errors = written_in (length errors) s.errors }
  pub on_output : output_after ≡ filled_by output s.output
  pub on_errors : errors_after ≡ filled_by errors s.errors

-- a refusal of a word that answers bytes: "standard output stays empty", and the end line on standard error
abbrev pub refused_with : ℕ → ℕ → Streams
refused_with number place = streams [] (end_line number place)

-- ---- desk layout DEPTH

-- the plan is laid out over the bytes themselves, where it has room, and its own bytes are printed
unfoldable pub laid_streams : List ℕ → ℕ → Laid → Streams
laid_streams s depth laid =
    if_eq laid.number 0 (streams (take laid.place (laid_in s depth s)) []) (refused_with laid.number laid.place)

-- "program only: input longer than 65,536 bytes", before any look at the plan
unfoldable pub layout_streams : List ℕ → ℕ → Streams
layout_streams s depth =
    if_lt 65536 (length s) (refused_with 19 65536) (laid_streams s depth (layout_of s depth (length s)))
