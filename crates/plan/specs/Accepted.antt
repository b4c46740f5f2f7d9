-- When a plan is accepted and when it is refused, in document 01's words over the records that the bytes hold.
-- Assumes nothing.
use Rattle.std.specs.Prelude.{ℕ, ◌<◌, ◌≤◌, ◌≡◌, List, length, take}
use Rattle.network.specs.declared.Network.{Network}
use Rattle.network.specs.Sets.{with_sets}
use Rattle.records.specs.Plan.{Plan, bytes_of, network_of, Keeps1to5}
use Rattle.records.specs.Keeps.{Accepted1to5, Refused1to5}
use Rattle.links.specs.Links.{nodes_of, links_of}
use Rattle.tree.specs.Checks.{Tied, EndsAtRoot}
use Rattle.clusters.specs.Clusters.{JoinsTwo, PairHasOne}
use Rattle.joined.specs.Joined.{JoinedIn}

-- the network of a plan: its lists, and the sets that they give
abbrev pub plan_network : Plan → Network
plan_network p = with_sets (network_of p)

-- a rule holds of every number below n
abbrev pub Every : (ℕ → Type 0) → ℕ → Type 0
Every Rule n = (k : ℕ) → k < n → Rule k

-- "lowest such node", "first such link": w is the first number below n of which the rule does not hold
pub record FirstBroken (Rule : ℕ → Type 0) (n w : ℕ) : Type 0 where
  pub below : w < n
  pub broken : Rule w → ⊥
  pub kept_before : Every Rule w

-- the rules over the whole plan
pub record Keeps6to10 (net : Network) : Type 0 where
  -- "Each node that is no root has a link to its parent."
  pub tied : Every (Tied net) (nodes_of net)
  -- "Following parents from a node must end at a root."
  pub rooted : Every (EndsAtRoot net) (nodes_of net)
  -- "A preferred link joins two clusters."
  pub joins_two : Every (JoinsTwo net) (links_of net)
  -- "For each two clusters with any link between them, exactly one of these links is preferred."
  pub pair_has_one : Every (PairHasOne net) (links_of net)
  -- "All nodes are joined through links."
  pub joined : Every (JoinedIn net) (nodes_of net)

-- k is the first of 6 to 10 that the plan breaks, and w the lowest node or first link that breaks it
pub data Breaks6to10 (net : Network) (k w : ℕ) : Type 0 where
  by_6 : k ≡ 6 → FirstBroken (Tied net) (nodes_of net) w → Breaks6to10 net k w
  by_7 : k ≡ 7 → Every (Tied net) (nodes_of net) → FirstBroken (EndsAtRoot net) (nodes_of net) w → Breaks6to10 net k w
  by_8 : k ≡ 8 → Every (Tied net) (nodes_of net) → Every (EndsAtRoot net) (nodes_of net) → FirstBroken (JoinsTwo net) (links_of net) w → Breaks6to10 net k w
  by_9 : k ≡ 9 → Every (Tied net) (nodes_of net) → Every (EndsAtRoot net) (nodes_of net) → Every (JoinsTwo net) (links_of net) → FirstBroken (PairHasOne net) (links_of net) w → Breaks6to10 net k w
  by_10 : k ≡ 10 → Every (Tied net) (nodes_of net) → Every (EndsAtRoot net) (nodes_of net) → Every (JoinsTwo net) (links_of net) → Every (PairHasOne net) (links_of net) → FirstBroken (JoinedIn net) (nodes_of net) w → Breaks6to10 net k w

-- accepted: the n bytes hold a plan that keeps every rule, and the network is that plan's, field by field
pub record Accepted (s : List ℕ) (n : ℕ) (net : Network) : Type 0 where
  pub plan : Plan
  pub keeps_records : Keeps1to5 plan
  pub keeps_whole : Keeps6to10 (plan_network plan)
  pub within : n ≤ length s
  pub bytes : take n s ≡ bytes_of plan
  pub network : net ≡ plan_network plan

-- refused: by a record, or by the whole of a plan whose records keep rules 1 to 5
pub data Refused (s : List ℕ) (k w : ℕ) : Type 0 where
  by_record : Refused1to5 s k w → Refused s k w
  by_whole : (n : ℕ) (net : Network) → Accepted1to5 s n net → Breaks6to10 (with_sets net) k w → Refused s k w
