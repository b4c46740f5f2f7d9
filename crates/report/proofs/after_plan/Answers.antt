-- `after_plan`: the list is handed the bytes behind the plan and the plan's start state, and its place counts from the start of all bytes, so
-- what `run_lines` writes is the text of that run.
use Prim.Native.Nat.{ℕ, ◌+◌, ◌-◌, ◌≤◌}
use native.Mathlib.Omega.{arith}
use mathlib.Core.Path.{◌≡◌, ◌∙◌, ap, subst}
use mathlib.Core.List.{List}
use lib.ListN.{length, take, drop, length-drop}
use lib.Seq.{take_all}
use Rattle.network.specs.declared.Network.{Network}
use Rattle.synchronizer.specs.declared.Done.{Done}
use Rattle.synchronizer.specs.declared.Ran.{Ran}
use Rattle.synchronizer.specs.Start.{start_of}
use Rattle.synchronizer.specs.Entry.{list_of}
use Rattle.text.specs.Put.{Put}
use Rattle.report.specs.Report.{run_text, list_text}
use Rattle.report.proofs.Places.{list_ends}
use Rattle.report.proofs.after_plan.Goals as goal

module _ (net : Network) (bytes : List ℕ) (from : ℕ) where
  -- the bytes behind the plan, as the code lends them
  behind : take (length bytes - from) (drop from bytes) ≡ drop from bytes
  behind = take_all (length bytes - from) (drop from bytes) (omega (arith, length-drop from bytes))

  module _ (ran : Ran) (begun : Done) (is-begun : begun ≡ start_of net) (is-ran : ran ≡ list_of net begun.state (take (length bytes - from) (drop from bytes))) where
    place_within : from ≤ length bytes → from + ran.place ≤ length bytes
    place_within h =
        omega (arith, ap (λ r. r.place) is-ran, list_ends net begun.state (take (length bytes - from) (drop from bytes)), ap length behind, length-drop from bytes)

    text_is : run_text net from ran ≡ list_text bytes from net
    unfolding list_text
    text_is =
        ap (run_text net from) (is-ran ∙ ap (λ (d : Done). list_of net d.state (take (length bytes - from) (drop from bytes))) is-begun ∙ ap (list_of net (start_of net).state) behind)

pub run_lines-requires-clause-place : goal.run_lines-requires-clause-place
run_lines-requires-clause-place c =
    let plan = c.args.plan.now in
    omega (arith, place_within plan.network c.args.bytes.now plan.taken c.run-ran.result c.start-begun.result c.start-begun.ensures c.run-ran.ensures.answer c.requires.0, c.well_formed)

pub returns : goal.returns
returns c =
    let plan = c.args.plan.now in
    let is = text_is plan.network c.args.bytes.now plan.taken c.run-ran.result c.start-begun.result c.start-begun.ensures c.run-ran.ensures.answer in
    record {
      put = subst (λ text. Put c.args.page.now 0 text c.run_lines.result c.run_lines.new.page) is c.run_lines.ensures.put;
      short = subst (λ text. length text ≤ 2048) is c.run_lines.ensures.short;
    }
