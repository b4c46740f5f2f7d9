-- `layout`: each refusal returns before anything is written. What is past all of them has a plan's bytes, with a place for each parent and flag, and a
-- buffer with room for them.
use Prim.Native.Nat.{◌≤◌}
use native.Mathlib.Omega.{arith}
use mathlib.Core.Path.{◌≡◌, sym, ◌∙◌, ap}
use Rattle.std.specs.Prelude.{Ok, Err, length}
use Rattle.std.proofs.lemmas.Result.{err_from_is_err_and}
use Rattle.laws.specs.Lists.{Bytes}
use Rattle.network.specs.Sets.{with_sets}
use Rattle.records.specs.Numbers.{accepted}
use Rattle.records.specs.Planned.{Planned, planned_of}
use Rattle.records.specs.Reader.{lists_of}
use Rattle.records.proofs.Turns.{refusal_is_no_0}
use Rattle.links.specs.Breach.{place_in}
use Rattle.links.specs.Links.{nodes_of}
use Rattle.joined.specs.Joined.{first_unjoined}
use Rattle.plan.proofs.Walks.{one_found, none_found}
use Rattle.layout.specs.Laid.{laid_of}
use Rattle.layout.specs.Layout.{laid, wires_of, layout_of, laid_in}
use Rattle.layout.proofs.Clusters.{clusters_within}
use Rattle.layout.proofs.Places.{plan_within, place_told}
use Rattle.layout.proofs.Refusals.{Refuses, by_record, by_unjoined, by_depth, by_room, writes}
use Rattle.layout.proofs.layout.Goals as goal
use Rattle.layout.proofs.layout.Goals.{In_err-taken, In_ok-taken, After-first_unjoined, In_err-none_at, In_ok-none_at}

-- ---- a record is refused

refused-listed : (c : In_err-taken) → planned_of (Err c.in_err-taken.field-0.0) ≡ lists_of c.args.bytes.now
refused-listed c = ap planned_of (sym c.in_err-taken.was) ∙ c.read_lists.ensures

record-refused : (c : In_err-taken) → Refuses c.args.bytes.now c.args.depth c.args.out.now (lists_of c.args.bytes.now).number (lists_of c.args.bytes.now).place
record-refused c =
    by_record c.args.bytes.now c.args.depth c.args.out.now (λ z. refusal_is_no_0 c.in_err-taken.field-0.0.refusal (ap (λ (r : Planned). r.number) (refused-listed c) ∙ z))

pub returns-in_err-taken-clause-answer : goal.returns-in_err-taken-clause-answer
returns-in_err-taken-clause-answer c =
    let p = err_from_is_err_and c.from_residual.result c.from_residual.ensures.1 in
    let at = (goal.at.returns-in_err-taken-clause-answer c).In_err-taken in
    rw (p.1, p.2) (ap (λ (r : Planned). laid r.number r.place) (refused-listed at) ∙ (record-refused at).0)

pub returns-in_err-taken-clause-written : goal.returns-in_err-taken-clause-written
returns-in_err-taken-clause-written c =
    (record-refused (goal.at.returns-in_err-taken-clause-written c).In_err-taken).1

-- ---- past the records the bytes keep rules 1 to 5

listed : (c : In_ok-taken) → planned_of (Ok c.in_ok-taken.field-0) ≡ lists_of c.args.bytes.now
listed c = ap planned_of (sym c.in_ok-taken.was) ∙ c.read_lists.ensures

kept : (c : In_ok-taken) → (lists_of c.args.bytes.now).number ≡ accepted
kept c = sym (ap (λ (r : Planned). r.number) (listed c))

place_is : (c : In_ok-taken) → c.in_ok-taken.field-0.taken ≡ (lists_of c.args.bytes.now).place
place_is c = ap (λ (r : Planned). r.place) (listed c)

wires : (c : After-first_unjoined) → c.with_sets-network.result ≡ wires_of c.args.bytes.now
wires c =
    c.with_sets-network.ensures
    ∙ ap (λ (r : Planned). with_sets r.network) (ap planned_of (sym c.in_ok-taken.was) ∙ c.read_lists.ensures)

unjoined-is : (c : After-first_unjoined) → c.first_unjoined.result ≡ place_in (nodes_of (wires_of c.args.bytes.now)) (first_unjoined (wires_of c.args.bytes.now))
unjoined-is c = c.first_unjoined.ensures ∙ ap (λ net. place_in (nodes_of net) (first_unjoined net)) (wires c)

-- ---- a node is not joined, or all are

module _ (c : In_err-none_at) (k : (lists_of c.args.bytes.now).number ≡ accepted) (u : c.first_unjoined.result ≡ place_in (nodes_of (wires_of c.args.bytes.now)) (first_unjoined (wires_of c.args.bytes.now))) where
  node-refused : (laid_of (Err c.in_err-none_at.field-0.0) ≡ layout_of c.args.bytes.now c.args.depth (length c.args.out.now)) × (c.args.out.now ≡ laid_in c.args.bytes.now c.args.depth c.args.out.now)
  node-refused =
      let f = one_found _ _ _ _ _ u c.none_at.ensures _ c.in_err-none_at.was in
      let R = by_unjoined c.args.bytes.now c.args.depth c.args.out.now k f.0 in
      (ap (λ x. laid_of (Err x)) f.1 ∙ R.0, R.1)

joined : (c : In_ok-none_at) → c.first_unjoined.result ≡ place_in (nodes_of (wires_of c.args.bytes.now)) (first_unjoined (wires_of c.args.bytes.now)) → nodes_of (wires_of c.args.bytes.now) ≤ first_unjoined (wires_of c.args.bytes.now)
joined c u = none_found _ _ _ _ _ u c.none_at.ensures _ c.in_ok-none_at.was

pub returns-in_err-none_at-clause-answer : goal.returns-in_err-none_at-clause-answer
returns-in_err-none_at-clause-answer c =
    let p = err_from_is_err_and c.from_residual-in_err-none_at.result c.from_residual-in_err-none_at.ensures.1 in
    rw (p.1, p.2) (node-refused (goal.at.returns-in_err-none_at-clause-answer c).In_err-none_at (kept (goal.at.returns-in_err-none_at-clause-answer c).In_ok-taken) (unjoined-is (goal.at.returns-in_err-none_at-clause-answer c).After-first_unjoined)).0

pub returns-in_err-none_at-clause-written : goal.returns-in_err-none_at-clause-written
returns-in_err-none_at-clause-written c = (node-refused (goal.at.returns-in_err-none_at-clause-written c).In_err-none_at (kept (goal.at.returns-in_err-none_at-clause-written c).In_ok-taken) (unjoined-is (goal.at.returns-in_err-none_at-clause-written c).After-first_unjoined)).1

-- ---- the depth and the room

pub returns-then-depth-gt-DEEPEST-clause-answer : goal.returns-then-depth-gt-DEEPEST-clause-answer
returns-then-depth-gt-DEEPEST-clause-answer c = (by_depth c.args.bytes.now c.args.depth c.args.out.now (kept (goal.at.returns-then-depth-gt-DEEPEST-clause-answer c).In_ok-taken) (joined (goal.at.returns-then-depth-gt-DEEPEST-clause-answer c).In_ok-none_at (unjoined-is (goal.at.returns-then-depth-gt-DEEPEST-clause-answer c).After-first_unjoined)) c.if-depth-gt-DEEPEST.true).0

pub returns-then-depth-gt-DEEPEST-clause-written : goal.returns-then-depth-gt-DEEPEST-clause-written
returns-then-depth-gt-DEEPEST-clause-written c = (by_depth c.args.bytes.now c.args.depth c.args.out.now (kept (goal.at.returns-then-depth-gt-DEEPEST-clause-written c).In_ok-taken) (joined (goal.at.returns-then-depth-gt-DEEPEST-clause-written c).In_ok-none_at (unjoined-is (goal.at.returns-then-depth-gt-DEEPEST-clause-written c).After-first_unjoined)) c.if-depth-gt-DEEPEST.true).1

pub returns-then-out-taken-clause-answer : goal.returns-then-out-taken-clause-answer
returns-then-out-taken-clause-answer c =
    let place = place_is (goal.at.returns-then-out-taken-clause-answer c).In_ok-taken in
    (by_room c.args.bytes.now c.args.depth c.args.out.now (kept (goal.at.returns-then-out-taken-clause-answer c).In_ok-taken) (joined (goal.at.returns-then-out-taken-clause-answer c).In_ok-none_at (unjoined-is (goal.at.returns-then-out-taken-clause-answer c).After-first_unjoined)) c.if-depth-gt-DEEPEST.false (omega (arith, c.if-out-taken.true, place))).0

pub returns-then-out-taken-clause-written : goal.returns-then-out-taken-clause-written
returns-then-out-taken-clause-written c =
    let place = place_is (goal.at.returns-then-out-taken-clause-written c).In_ok-taken in
    (by_room c.args.bytes.now c.args.depth c.args.out.now (kept (goal.at.returns-then-out-taken-clause-written c).In_ok-taken) (joined (goal.at.returns-then-out-taken-clause-written c).In_ok-none_at (unjoined-is (goal.at.returns-then-out-taken-clause-written c).After-first_unjoined)) c.if-depth-gt-DEEPEST.false (omega (arith, c.if-out-taken.true, place))).1

pub lay-requires : goal.lay-requires
lay-requires c =
    let bytes : Bytes c.args.bytes.now = λ i. omega (arith, c.type_inv.bytes i) in
    let pass = (kept (goal.at.lay-requires c).In_ok-taken) in
    let place = place_is (goal.at.lay-requires c).In_ok-taken in
    rw (wires (goal.at.lay-requires c).After-first_unjoined) (record {
      there = omega (arith, place, plan_within c.args.bytes.now bytes pass);
      fits = omega arith;
      fields = omega (arith, place, place_told c.args.bytes.now bytes pass);
      clustered = clusters_within c.args.bytes.now c.args.depth bytes pass;
    })

pub returns-clause-answer : goal.returns-clause-answer
returns-clause-answer c =
    let place = place_is (goal.at.returns-clause-answer c).In_ok-taken in
    let done = writes c.args.bytes.now c.args.depth c.args.out.now (kept (goal.at.returns-clause-answer c).In_ok-taken) (joined (goal.at.returns-clause-answer c).In_ok-none_at (unjoined-is (goal.at.returns-clause-answer c).After-first_unjoined)) c.if-depth-gt-DEEPEST.false (omega (arith, c.if-out-taken.false, place)) in
    ap (laid accepted) place ∙ done.0

pub returns-clause-written : goal.returns-clause-written
returns-clause-written c =
    let place = place_is (goal.at.returns-clause-written c).In_ok-taken in
    let done = writes c.args.bytes.now c.args.depth c.args.out.now (kept (goal.at.returns-clause-written c).In_ok-taken) (joined (goal.at.returns-clause-written c).In_ok-none_at (unjoined-is (goal.at.returns-clause-written c).After-first_unjoined)) c.if-depth-gt-DEEPEST.false (omega (arith, c.if-out-taken.false, place)) in
    cc (c.lay.ensures, place, wires (goal.at.returns-clause-written c).After-first_unjoined, done.1)
