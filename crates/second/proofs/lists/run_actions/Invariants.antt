-- `lists::run_actions` is safe and ends: each turn goes at least one byte further and never past
-- the end, so the list ends; no more actions are taken than bytes were passed, so their number
-- fits.
use Rattle.std.proofs.Common.{◌-◌, ◌≤◌, length}
use Rattle.second.proofs.lists.run_actions.Given as goal

abbrev pub invariant-loop-place : goal.invariant-loop-place
invariant-loop-place l = (l.taken ≤ l.place) × (l.place ≤ length l.bytes)

abbrev pub decreases-loop-place : goal.decreases-loop-place
decreases-loop-place l = length l.bytes - l.place
