-- `table`: nothing is written where the test refuses. An accepted table has a valid network, so that there are at most 64 nodes, and a buffer
-- with room for them; what is written is the run of the asked rounds.
-- The start values are 64 long by the type of the struct, which the search proves: the clause `long` has no answer here.
use Prim.Native.Nat.{◌≤◌}
use native.Mathlib.Omega.{arith}
use mathlib.Core.Path.{◌≡◌, sym, ◌∙◌, ap}
use lib.ListN.{length, get_or}
use Rattle.std.specs.Prelude.{Result, Ok, Err, ⊤}
use Rattle.answers.specs.declared.Refusal.{Refusal}
use Rattle.answers.specs.Numbers.{answer_of}
use Rattle.answers.proofs.Named.{answer_of-injective}
use Rattle.laws.specs.Below.{over_below}
use Rattle.network.proofs.Valid.{valid_clauses}
use Rattle.lockstep.specs.Rounds.{lockstep_of}
use Rattle.lockstep.specs.Table.{table_number}
use Rattle.lockstep.proofs.Tables.{Accepted, accepted, refused_unwritten, accepted_written}
use Rattle.lockstep.proofs.table.Goals as goal
use Rattle.lockstep.proofs.table.Goals.{In-Ok}

is-accepted : (c : In-Ok) → table_number c.args.net c.args.rounds (length c.args.out.now) ≡ 0
is-accepted c = sym c.answer-answered.ensures ∙ ap answer_of c.in-Ok.is

rests-on : (c : In-Ok) → Accepted c.args.net c.args.rounds (length c.args.out.now)
rests-on c =
    let start = c.args in
    accepted start.net start.rounds (length start.out.now) (is-accepted c)

few-nodes : (c : In-Ok) → c.args.net.nodes ≤ 64
few-nodes c = (valid_clauses c.args.net (rests-on c).valid).limits.at_most_64_nodes

pub values_after-values-requires : goal.values_after-values-requires
values_after-values-requires c = few-nodes (goal.at.values_after-values-requires c).In-Ok

pub fill-requires : goal.fill-requires
fill-requires c = (few-nodes (goal.at.fill-requires c).In-Ok, (rests-on (goal.at.fill-requires c).In-Ok).has_room)

pub returns-in-Ok-clause-table : goal.returns-in-Ok-clause-table
returns-in-Ok-clause-table c =
    let start = c.args in
    let met : c.values_after-values.result ≡ lockstep_of start.net start.rounds = c.values_after-values.ensures in
    let buffer =
    c.fill.ensures
    ∙ ap (λ xs. over_below (λ p. get_or xs p 0) start.net.nodes start.out.now) met
    ∙ sym (accepted_written start.net start.rounds start.out.now (is-accepted (goal.at.returns-in-Ok-clause-table c).In-Ok)) in
    (c.answer-answered.ensures, buffer)

-- a refusal has a number of its own, and 0 is none's
is-no-0 : (r : Result ⊤ Refusal) (e : Refusal) → r ≡ Err e → answer_of r ≡ 0 → ⊥
is-no-0 r e q z = let p : r ≡ Ok tt = answer_of-injective r (Ok tt) z in absurd (cc (p, q))

pub returns-in_default-clause-table : goal.returns-in_default-clause-table
returns-in_default-clause-table c =
    let start = c.args in
    let refused : table_number start.net start.rounds (length start.out.now) ≡ 0 → ⊥ = λ z. is-no-0 _ _ c.in_default.is (c.answer-answered.ensures ∙ z) in
    (c.answer-answered.ensures, sym (refused_unwritten start.net start.rounds start.out.now (omega (arith, refused))))
