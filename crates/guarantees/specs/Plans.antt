-- When a plan is accepted and when it is refused, in document 01's words: its records one after another, then the whole of it.
-- Assumes nothing.
use Rattle.std.specs.Prelude.{ℕ, ◌+◌, ◌≤◌, ◌≡◌, List, length, take, drop}
use Rattle.laws.specs.Lists.{Bytes}
use Rattle.network.specs.declared.Network.{Network}
use Rattle.records.specs.declared.Record.{Record}
use Rattle.records.specs.declared.Record.TheVariants.{End}
use Rattle.records.specs.Plan.{Plan}
use Rattle.records.specs.Keeps.{record_bytes, records_bytes, no_plan, with_all, InOrder, EachKeeps, BreaksAt}
use Rattle.plan.specs.Accepted.{plan_network, Keeps6to10, Breaks6to10}

-- the first n bytes are records, each keeps the rules after those before it, none is kind 0, and they add up to plan p
pub record ReadTo (s : List ℕ) (n : ℕ) (p : Plan) : Type 0 where
  pub records : List Record
  pub keep : EachKeeps no_plan records
  pub within : n ≤ length s
  pub bytes : take n s ≡ records_bytes records
  pub plan : p ≡ with_all no_plan records

-- kind 0 stands behind them in its order: n bytes in all
pub record Ended (s : List ℕ) (n : ℕ) (p : Plan) : Type 0 where
  pub before : ℕ
  pub read : ReadTo s before p
  pub kind_0 : take 1 (drop before s) ≡ record_bytes End
  pub in_order : InOrder p End
  pub all : n ≡ before + 1
  pub small : Bytes s

-- accepted: the n bytes hold a plan that keeps every rule, and the network is that plan's, field by field
pub record Accepted (s : List ℕ) (n : ℕ) (net : Network) : Type 0 where
  pub plan : Plan
  pub ended : Ended s n plan
  pub whole : Keeps6to10 (plan_network plan)
  pub network : net ≡ plan_network plan

-- refused: by what stands at place w, or by the whole of a plan whose records keep rules 1 to 5
pub data Refused (s : List ℕ) (k w : ℕ) : Type 0 where
  by_record : (p : Plan) → ReadTo s w p → BreaksAt s w p k → Refused s k w
  by_whole : (n : ℕ) (p : Plan) → Ended s n p → Breaks6to10 (plan_network p) k w → Refused s k w
