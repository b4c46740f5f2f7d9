-- When a layout comes back with which number, and what it leaves in the buffer, in document 02's words over the plan that the bytes hold.
-- Assumes nothing.
use Rattle.std.specs.Prelude.{ℕ, ◌<◌, ◌≤◌, ◌≡◌, List, length, take, drop}
use Rattle.records.specs.Numbers.{accepted}
use Rattle.records.specs.Plan.{Plan, bytes_of, Keeps1to5}
use Rattle.records.specs.Keeps.{Refused1to5}
use Rattle.links.specs.Links.{nodes_of}
use Rattle.joined.specs.Joined.{JoinedIn}
use Rattle.plan.specs.Numbers.{unjoined}
use Rattle.plan.specs.Accepted.{plan_network, Every, FirstBroken}
use Rattle.layout.specs.LaidOut.{LaidOut}
use Rattle.layout.specs.Numbers.{too_deep, no_room}

-- the first n bytes are a plan that keeps rules 1 to 5, whatever bytes stand after its kind 0
pub record Holds (s : List ℕ) (n : ℕ) (p : Plan) : Type 0 where
  pub keeps : Keeps1to5 p
  pub within : n ≤ length s
  pub bytes : take n s ≡ bytes_of p

-- "All nodes are joined through links."
abbrev pub AllJoined : Plan → Type 0
AllJoined p = Every (JoinedIn (plan_network p)) (nodes_of (plan_network p))

-- "Refusals, in order: 1 to 5 as before, 10, then 22 depth above 63, 23 buffer shorter than the plan, both with place 0"; else 0, and for its place
-- how many bytes the plan takes
pub data LayoutAnswer (s : List ℕ) (depth room k w : ℕ) : Type 0 where
  by_record : Refused1to5 s k w → LayoutAnswer s depth room k w
  by_10 : (n : ℕ) (p : Plan) → k ≡ unjoined → Holds s n p → FirstBroken (JoinedIn (plan_network p)) (nodes_of (plan_network p)) w → LayoutAnswer s depth room k w
  by_22 : (n : ℕ) (p : Plan) → k ≡ too_deep → w ≡ 0 → Holds s n p → AllJoined p → 63 < depth → LayoutAnswer s depth room k w
  by_23 : (n : ℕ) (p : Plan) → k ≡ no_room → w ≡ 0 → Holds s n p → AllJoined p → depth ≤ 63 → room < n → LayoutAnswer s depth room k w
  laid_out_lem : (p : Plan) → k ≡ accepted → Holds s w p → AllJoined p → depth ≤ 63 → w ≤ room → LayoutAnswer s depth room k w

-- what an accepted layout of n bytes leaves where `before` stood
pub record Written (s : List ℕ) (depth : ℕ) (before : List ℕ) (n : ℕ) (after : List ℕ) : Type 0 where
  -- "a plan whose parents and flags nobody filled in"
  pub plan : Plan
  pub given : Holds s n plan
  pub joined : AllJoined plan
  pub shallow : depth ≤ 63
  pub room : n ≤ length before
  -- "write a plan of equal length"
  pub laid_plan_lem : Plan
  pub as_asked : LaidOut depth plan laid_plan_lem
  pub bytes : take n after ≡ bytes_of laid_plan_lem
  -- "an accepted one nothing past the plan"
  pub rest : drop n after ≡ drop n before
