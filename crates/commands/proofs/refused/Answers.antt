-- `refused`: the end line is all that is written.
use native.Mathlib.Omega.{arith}
use Rattle.commands.proofs.Buffers.{nothing_written, nothing_filled}
use Rattle.commands.proofs.refused.Goals as goal

pub returns : goal.returns
returns c =
    let ended = c.end_only.ensures in
    let output = c.args.output.now in
    rw (← c.number.ensures)
    (record {
      prints = record { counts = λ i. record { output = nothing_written output i; errors = ended.count i }; on_output = nothing_filled output; on_errors = ended.held };
      short = record { output_fits = omega arith; errors_fit = ended.at_most };
    })
