-- `rounds::mean` is safe: each node passed, and p itself, adds at most one number of two bytes to
-- the sum.
use Rattle.std.proofs.Common.{◌*◌, ◌+◌, ◌≤◌}
use Rattle.second.proofs.rounds.mean.Given as goal

abbrev pub invariant-loop-q : goal.invariant-loop-q
invariant-loop-q l = l.sum ≤ 65535 * (l.q + 1)
