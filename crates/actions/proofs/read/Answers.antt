-- `read`: where a byte is missing the record is cut short; else it is that of the first byte's kind, if there is one.
use Rattle.std.proofs.Common.{rules, ◌≡◌, arith, Err, ap, ◌∙◌}
use Rattle.std.proofs.lemmas.Result.{err_from_is_err_and}
use Rattle.laws.proofs.Choice.{picks}
use Rattle.answers.specs.declared.Refusal.TheVariants.{ActionCutShort}
use Rattle.actions.specs.Records.{kind_from, act_at, read_at}
use Rattle.actions.proofs.Records.{none_known, one_known}
use Rattle.actions.proofs.read.Goals as goal

pub returns-in_err-number : goal.returns-in_err-number
unfolding read_at
returns-in_err-number c =
    let (y, is, from) = err_from_is_err_and c.from_residual.result c.from_residual.ensures.1 in
    let x = c.in_err-number.ensures in
    let refused = rw x.ok_part at x.value in
    let why : c.in_err-number.field-0.0 ≡ ActionCutShort = cc in
    let past = rw x.ok_part at c.get.ensures.lookup.3 in
    is ∙ ap Err (from ∙ why) ∙ search (rules, picks)

pub returns-in_err-kind : goal.returns-in_err-kind
returns-in_err-kind c =
    let (y, is, from) = err_from_is_err_and c.from_residual-in_err-kind.result c.from_residual-in_err-kind.ensures.1 in
    let x = c.in_ok-number.ensures in
    let inside = rw x.ok_part at c.get.ensures.lookup.3 in
    let byte = rw x.ok_part at (c.get.ensures.lookup.4 (omega arith) 0) in
    is ∙ ap Err from ∙ none_known _ _ _ inside.0 (c.in_err-kind.ensures ∙ ap kind_from byte)

pub returns-in_err-q : goal.returns-in_err-q
unfolding act_at
returns-in_err-q c =
    let (y, is, from) = err_from_is_err_and c.from_residual-in_err-q.result c.from_residual-in_err-q.ensures.1 in
    let x = c.in_ok-number.ensures in
    let inside = rw x.ok_part at c.get.ensures.lookup.3 in
    let byte = rw x.ok_part at (c.get.ensures.lookup.4 (omega arith) 0) in
    let z = c.in_err-q.ensures in
    let refused = rw z.ok_part at z.value in
    let why : c.in_err-q.field-0.0 ≡ ActionCutShort = cc in
    let past = rw (z.ok_part, c.body_of-body.ensures.is) at c.get-2.ensures.lookup.3 in
    is ∙ ap Err (from ∙ why) ∙ search (rules, picks) ∙ one_known _ _ _ inside.0 (c.in_ok-kind.ensures ∙ ap kind_from byte)

pub returns : goal.returns
unfolding act_at
returns c =
    let x = c.in_ok-number.ensures in
    let inside = rw x.ok_part at c.get.ensures.lookup.3 in
    let byte = rw x.ok_part at (c.get.ensures.lookup.4 (omega arith) 0) in
    let z = c.in_ok-q.ensures in
    let within = rw (z.ok_part, c.body_of-body.ensures.is) at c.get-2.ensures.lookup.3 in
    let last = rw z.ok_part at (c.get-2.ensures.lookup.4 (omega arith) 0) in
    rw (last, c.body_of-body.ensures.is) (search (rules, picks)) ∙ one_known _ _ _ inside.0 (c.in_ok-kind.ensures ∙ ap kind_from byte)
