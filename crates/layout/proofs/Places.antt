-- What bytes that rules 1 to 5 let pass are known by, for the code that writes over them: the plan's length by its counts, that all of it stands
-- in the bytes, and that the ends of its links are nodes.
-- Assumes nothing.
use Prim.Native.Nat.{ℕ, ◌+◌, ◌*◌, ◌<◌, ◌≤◌}
use native.Mathlib.Omega.{arith}
use mathlib.Core.Path.{◌≡◌, ◌∙◌, ap}
use mathlib.Core.List.{List}
use lib.ListN.{length, get_or}
use lib.Seq.{length-take-le}
use Rattle.network.specs.Sets.{with_sets}
use Rattle.records.specs.Numbers.{accepted}
use Rattle.records.specs.Reader.{accepted_with, lists_of}
use Rattle.records.specs.Plan.{Plan, network_of, Keeps1to5}
use Rattle.laws.specs.Lists.{Bytes}
use Rattle.records.specs.Keeps.{Accepted1to5}
use Rattle.records.proofs.Answers.{answer_accepted}
use Rattle.records.proofs.Kept.{kept_ends}
use Rattle.links.specs.Links.{nodes_of, links_of}
use Rattle.plan.specs.Accepted.{plan_network}
use Rattle.layout.specs.Layout.{wires_of}
use Rattle.layout.proofs.Records.{plan_length}

-- ---- the network of a plan

module _ (p : Plan) (K : Keeps1to5 p) where
  -- all of the nodes and links that the plan has are there
  pub all_nodes_lem : nodes_of (plan_network p) ≡ length p.nodes
  unfolding with_sets network_of
  all_nodes_lem = omega (arith, K.at_most_64_nodes)

  pub all_links : links_of (plan_network p) ≡ length p.links
  unfolding with_sets network_of
  all_links = omega (arith, K.at_most_128_links)

  -- "A link needs a < b < node count"
  pub ends_are_nodes : (l : ℕ) → l < links_of (plan_network p) → (get_or (plan_network p).lowers l 0 < nodes_of (plan_network p)) × (get_or (plan_network p).uppers l 0 < nodes_of (plan_network p))
  unfolding with_sets network_of
  ends_are_nodes l h =
      let e = kept_ends p K l (omega arith) in
      (omega (arith, e, K.at_most_64_nodes), omega (arith, e, K.at_most_64_nodes))

-- ---- bytes whose records are accepted

module _ (s : List ℕ) (small : Bytes s) (none : (lists_of s).number ≡ accepted) where
  -- the records' answer is all told by its place and its network
  answer : lists_of s ≡ accepted_with (lists_of s).place (lists_of s).network
  answer = λ i. record { number = none i; place = (lists_of s).place; network = (lists_of s).network }

  -- the bytes hold a plan that keeps rules 1 to 5
  pub held : Accepted1to5 s (lists_of s).place (lists_of s).network
  held = answer_accepted s small (lists_of s).place (lists_of s).network answer

  pub wires_of_plan : wires_of s ≡ plan_network held.plan
  wires_of_plan = ap with_sets held.network

  pub plan_within : (lists_of s).place ≤ length s
  plan_within = held.within

  pub place_told : (lists_of s).place ≡ 4 + 5 * nodes_of (wires_of s) + 4 * links_of (wires_of s)
  place_told =
      let nodes : nodes_of (wires_of s) ≡ length held.plan.nodes = ap nodes_of wires_of_plan ∙ all_nodes_lem held.plan held.keeps in
      let links : links_of (wires_of s) ≡ length held.plan.links = ap links_of wires_of_plan ∙ all_links held.plan held.keeps in
      omega (arith, nodes, links, length-take-le (lists_of s).place s held.within, ap length held.bytes, plan_length held.plan)

  pub ends_within : (l : ℕ) → l < links_of (wires_of s) → (get_or (wires_of s).lowers l 0 < nodes_of (wires_of s)) × (get_or (wires_of s).uppers l 0 < nodes_of (wires_of s))
  ends_within l h = rw wires_of_plan (ends_are_nodes held.plan held.keeps l (rw wires_of_plan at h))
