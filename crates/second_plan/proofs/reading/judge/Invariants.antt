-- `reading::judge` is safe and ends: each turn goes at least one byte further and never past the
-- end, so the plan ends; no more nodes or links are counted than bytes were passed, so their
-- numbers fit.
use Rattle.std.proofs.Common.{◌-◌, ◌≤◌, length}
use Rattle.second_plan.proofs.reading.judge.Given as goal

abbrev pub invariant-loop-at : goal.invariant-loop-at
invariant-loop-at l = (l.seen.nodes ≤ l.at) × (l.seen.links ≤ l.at) × (l.at ≤ length l.bytes)

abbrev pub decreases-loop-at : goal.decreases-loop-at
decreases-loop-at l = length l.bytes - l.at
