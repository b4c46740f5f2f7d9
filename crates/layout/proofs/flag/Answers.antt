-- `flag`: 0 inside a cluster and between clusters that have met; else 1, and each end's cluster has met the other's.
use native.Mathlib.Omega.{arith}
use mathlib.Core.Path.{sym, ◌∙◌}
use Rattle.layout.proofs.Flags.{flag_inside, flag_met, flag_new}
use Rattle.layout.proofs.flag.Goals as goal
use Rattle.layout.proofs.flag.Goals.{then-x-y-via-then-x-y, then-x-y-via-else-x-y+then-contains}

pub returns-then-x-y : goal.returns-then-x-y
returns-then-x-y c =
    elim c.then-x-y.branch [
      | then-x-y-via-then-x-y w ↦ flag_inside _ _ _ w.if-x-y.true
      | then-x-y-via-else-x-y+then-contains w ↦ flag_met _ _ _ w.if-x-y.false (sym w.contains.ensures ∙ w.if-contains.true)
    ]

pub returns : goal.returns
returns c =
    let args = c.args in
    flag_new args.met.now args.x args.y c.insert.result.marks c.insert-2.result.marks (omega arith) (omega arith) c.if-x-y.false (sym c.contains.ensures ∙ c.if-contains.false) c.insert.ensures c.insert-2.ensures
