-- `write_page`: the length decides first, then the plan's answer; what is written is the text of the case.
use Prim.Native.Nat.{ℕ, ◌<◌, ◌≤◌}
use native.Mathlib.Omega.{arith}
use mathlib.Core.Path.{◌≡◌, refl, sym, ◌∙◌, ap}
use mathlib.Core.List.{List}
use lib.ListN.{length}
use Rattle.std.specs.Prelude.{Result, Ok, Err}
use Rattle.answers.specs.declared.Refused.{Refused}
use Rattle.answers.specs.Numbers.{number_of}
use Rattle.laws.specs.Lists.{Bytes}
use Rattle.laws.proofs.Choice.{if_lt_yes, if_lt_no, if_eq_yes, if_eq_no}
use Rattle.records.specs.declared.Plan.{Plan}
use Rattle.records.specs.Planned.{Planned, planned_of}
use Rattle.records.proofs.Turns.{refusal_is_no_0}
use Rattle.plan.specs.Checks.{plan_of}
use Rattle.report.specs.Lines.{end_line}
use Rattle.report.specs.Report.{list_text, planned_text, text_of}
use Rattle.report.proofs.Plans.{plan_ends, at_most_64}
use Rattle.report.proofs.Short.{end_short}
use Rattle.report.proofs.write_page.Goals as goal

module _ (bytes : List ℕ) where
  too_long_lem : 65536 < length bytes → text_of bytes ≡ end_line 19 65536
  unfolding text_of
  too_long_lem h = if_lt_yes 65536 (length bytes) (end_line 19 65536) (planned_text bytes (plan_of bytes)) h

  module _ (room : length bytes ≤ 65536) (result : Result Plan Refused) (is : planned_of result ≡ plan_of bytes) where
    judged : text_of bytes ≡ planned_text bytes (planned_of result)
    unfolding text_of
    judged =
        if_lt_no 65536 (length bytes) (end_line 19 65536) (planned_text bytes (plan_of bytes)) room ∙ ap (planned_text bytes) (sym is)

    refused : (e : Refused) → result ≡ Err e → text_of bytes ≡ end_line (number_of e.refusal) e.place
    unfolding planned_text
    refused e q =
        judged
        ∙ ap (λ r. planned_text bytes (planned_of r)) q
        ∙ if_eq_no (number_of e.refusal) 0 _ (end_line (number_of e.refusal) e.place) (refusal_is_no_0 e.refusal)

    taken : (p : Plan) → result ≡ Ok p → text_of bytes ≡ list_text bytes p.taken p.network
    unfolding planned_text
    taken p q = judged ∙ ap (λ r. planned_text bytes (planned_of r)) q ∙ if_eq_yes 0 0 (list_text bytes p.taken p.network) _ refl

pub returns-then-bytes-gt-LONGEST : goal.returns-then-bytes-gt-LONGEST
returns-then-bytes-gt-LONGEST c =
    let is = too_long_lem c.args.bytes.now (omega (arith, c.if-bytes-gt-LONGEST.true)) ∙ ap (λ n. end_line n 65536) (sym c.number.ensures) in
    record { put = rw is c.end_line.ensures; short = rw is (omega (arith, end_short c.number.result 65536 (omega (arith, c.number.ensures)) (omega arith))) }

pub returns-in-Ok : goal.returns-in-Ok
returns-in-Ok c =
    let is = taken c.args.bytes.now (omega (arith, c.if-bytes-gt-LONGEST.false)) c.read_plan.result c.read_plan.ensures.answer c.in-Ok.plan c.in-Ok.is in
    record { put = rw is c.after_plan.ensures.put; short = rw is c.after_plan.ensures.short }

pub returns-in-Err : goal.returns-in-Err
returns-in-Err c =
    let e = c.in-Err.refused in
    let is = refused c.args.bytes.now (omega (arith, c.if-bytes-gt-LONGEST.false)) c.read_plan.result c.read_plan.ensures.answer e c.in-Err.is ∙ ap (λ n. end_line n e.place) (sym c.number-in-Err.ensures) in
    record { put = rw is c.end_line-in-Err.ensures; short = rw is (omega (arith, end_short c.number-in-Err.result e.place (omega arith) (omega arith))) }

pub after_plan-requires : goal.after_plan-requires
after_plan-requires c =
    let bytes = c.args.bytes.now in
    let small : Bytes bytes = c.read_plan.ensures.small in
    let is : planned_of (Ok c.in-Ok.plan) ≡ plan_of bytes = ap planned_of (sym c.in-Ok.is) ∙ c.read_plan.ensures.answer in
    let none : (plan_of bytes).number ≡ 0 = ap (λ (r : Planned). r.number) (sym is) in
    (omega (arith, ap (λ (r : Planned). r.place) is, plan_ends bytes small none), omega (arith, ap (λ (r : Planned). r.network.nodes) is, at_most_64 bytes small none))
