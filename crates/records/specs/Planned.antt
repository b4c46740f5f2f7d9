-- What reading a plan comes to, as document 01 hands it back: 0, the bytes that the plan took and its network; or the number of a refusal, the
-- place for it, and a network of zeros.
-- Assumes nothing.
use Rattle.std.specs.Prelude.{ℕ, Result, Ok, Err}
use Rattle.answers.specs.declared.Refused.{Refused}
use Rattle.answers.specs.Numbers.{number_of}
use Rattle.network.specs.declared.Network.{Network}
use Rattle.network.specs.Zeros.{zero_network}
use Rattle.records.specs.declared.Plan.{Plan}

pub record Planned : Type 0 where
  pub number : ℕ
  pub place : ℕ
  pub network : Network

-- "A refused plan hands back a network of zeros": a `Result<Plan, Refused>` has none to hand back
abbrev pub planned_of : Result Plan Refused → Planned
planned_of (Ok p) = record { number = 0; place = p.taken; network = p.network }
planned_of (Err e) = record { number = number_of e.refusal; place = e.place; network = zero_network }

-- the same of a network that was lent: what is said, and what the network then holds
abbrev pub handed_of : Result ℕ Refused → Network → Planned
handed_of (Ok n) net = record { number = 0; place = n; network = net }
handed_of (Err e) net = record { number = number_of e.refusal; place = e.place; network = net }
