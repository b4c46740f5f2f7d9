-- `claim_each`: one turn claims the lowest of those left, and leaves the others.
use Rattle.std.proofs.Common.{arith, sym, ◌∙◌, ap}
use Rattle.claims.specs.Claiming.{unclaimed_of, claims_all}
use Rattle.claims.proofs.Each.{taken_free, taken_rest, claims_on, claims_end}
use Rattle.claims.proofs.Claiming.claim_each.Goals as goal

pub put-requires : goal.put-requires
put-requires c =
    taken_free c.args.neighbours c.args.x c.args.deep c.loop-node.self _ _ _ c.loop-node.invariant.0 c.in-Some.ensures.steps

pub loop-node-preserved : goal.loop-node-preserved
loop-node-preserved c =
    let args = c.args in
    let at = c.loop-node in
    let rest = taken_rest args.neighbours args.x args.deep at.self _ _ _ at.invariant.0 c.in-Some.ensures.steps (omega arith) in
    let on = claims_on args.neighbours args.x args.deep at.self _ _ _ at.invariant.0 c.in-Some.ensures.steps in
    (rest ∙ ap (unclaimed_of args.neighbours) (sym c.put.ensures), ap (claims_all args.neighbours args.x args.deep) c.put.ensures ∙ sym on ∙ at.invariant.1)

pub returns : goal.returns
returns c =
    let args = c.args in
    let at = c.loop-node in
    sym (claims_end args.neighbours args.x args.deep at.self (sym at.invariant.0 ∙ c.in-None.ensures.steps.0)) ∙ at.invariant.1
