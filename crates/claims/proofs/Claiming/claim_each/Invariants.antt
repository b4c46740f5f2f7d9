-- `claim_each`: those that are left to claim are the neighbours that are unclaimed; what the claims so far still come to is what all come to.
use mathlib.Core.Path.{◌≡◌}
use Rattle.claims.specs.Claiming.{unclaimed_of, claims_all}
use Rattle.claims.proofs.Claiming.claim_each.Given as goal

abbrev pub invariant-loop-node : goal.invariant-loop-node
invariant-loop-node l =
    (l.node-iterator ≡ unclaimed_of l.neighbours l.self) × (claims_all l.neighbours l.x l.deep l.self ≡ claims_all l.neighbours l.x l.deep l.fn.self)
