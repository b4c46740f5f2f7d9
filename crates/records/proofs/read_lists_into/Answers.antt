use native.Mathlib.Omega.{arith}
use mathlib.Core.Path.{◌≡◌, sym, ◌∙◌, ap, ap₂}
use mathlib.Core.Bool.{false}
use Rattle.std.proofs.Common.{rules}
use Rattle.std.proofs.lemmas.Result.{err_from_is_err_and}
use Rattle.records.specs.declared.Record.TheVariants.{End}
use Rattle.records.specs.Record.{Whole, read_at}
use Rattle.records.specs.Reader.{closes_of, answered}
use Rattle.records.proofs.Begun.{not_end_goes}
use Rattle.records.proofs.Rules.{kept_has_room}
use Rattle.records.proofs.Turns.{starts, whole_ends, whole_found, at_refused, at_fault, at_kind_0, goes_on, refusal_is_no_0}
use Rattle.records.proofs.read_lists_into.Goals as goal
use Rattle.records.proofs.read_lists_into.Goals.{In_ok-rec}

-- what stood at the place where the turn began
read_whole : (c : In_ok-rec) → read_at c.args.bytes.now c.loop-rec.cursor.at ≡ Whole c.in_ok-rec.rec c.in_ok-rec.next
read_whole c = whole_found _ _ _ _ (sym c.read.ensures ∙ c.in_ok-rec.was)

pub loop-rec-init : goal.loop-rec-init
loop-rec-init c = record { lent = c.zeros.ensures; reading = rw c.zeros-lists.ensures (starts _) }

pub returns-in_err-rec : goal.returns-in_err-rec
returns-in_err-rec c =
    let p = err_from_is_err_and c.from_residual.result c.from_residual.ensures.1 in
    rw (p.1, p.2, c.loop-rec.invariant.lent) (at_refused c.loop-rec.invariant.reading _ (sym c.read.ensures ∙ c.in_err-rec.was))

pub returns-in-Err : goal.returns-in-Err
returns-in-Err c =
    ap₂ (λ k net. answered k c.loop-rec.cursor.at net) c.in-Err.ensures c.loop-rec.invariant.lent
    ∙ at_fault c.loop-rec.invariant.reading (read_whole (goal.at.returns-in-Err c).In_ok-rec) (λ z. refusal_is_no_0 c.in-Err.refusal (c.in-Err.ensures ∙ z))

pub returns-then-eq : goal.returns-then-eq
returns-then-eq c =
    let e : c.in_ok-rec.rec ≡ End = search rules in
    at_kind_0 c.loop-rec.invariant.reading (read_whole (goal.at.returns-then-eq c).In_ok-rec) (sym c.in_default.ensures) (ap closes_of e)

pub add-requires : goal.add-requires
add-requires c = kept_has_room c.loop-rec.lists c.in_ok-rec.rec (sym c.in_default.ensures)

pub loop-rec-smaller : goal.loop-rec-smaller
loop-rec-smaller c =
    omega (arith, whole_ends c.args.bytes.now c.loop-rec.cursor.at c.in_ok-rec.rec c.in_ok-rec.next (read_whole (goal.at.loop-rec-smaller c).In_ok-rec))

pub loop-rec-preserved : goal.loop-rec-preserved
loop-rec-preserved c =
    let goes : closes_of c.in_ok-rec.rec ≡ false = not_end_goes c.in_ok-rec.rec (search rules) in
    let reads = goes_on c.loop-rec.invariant.reading (read_whole (goal.at.loop-rec-preserved c).In_ok-rec) (sym c.in_default.ensures) goes (kept_has_room c.loop-rec.lists c.in_ok-rec.rec (sym c.in_default.ensures)) in
    record { lent = c.loop-rec.invariant.lent; reading = rw c.add.ensures reads }
