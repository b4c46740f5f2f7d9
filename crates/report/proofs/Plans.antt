-- What the report rests on of an accepted plan: it lies within the bytes, and it has at most 64 nodes.
-- Assumes nothing.
use Prim.Native.Nat.{ℕ, ◌≤◌}
use native.Mathlib.Omega.{arith}
use mathlib.Core.Path.{◌≡◌, ap}
use mathlib.Core.List.{List}
use lib.ListN.{length}
use Rattle.laws.specs.Lists.{Bytes}
use Rattle.network.specs.Sets.{with_sets}
use Rattle.records.specs.Plan.{network_of}
use Rattle.records.specs.Reader.{answered}
use Rattle.plan.specs.Checks.{plan_of}
use Rattle.plan.specs.Accepted.{Accepted}
use Rattle.plan.proofs.Answers.{answer_accepted_plan}

module _ (s : List ℕ) (small : Bytes s) (yes : (plan_of s).number ≡ 0) where
  accepted : Accepted s (plan_of s).place (plan_of s).network
  accepted = answer_accepted_plan s small (plan_of s).place (plan_of s).network (ap (λ n. answered n (plan_of s).place (plan_of s).network) yes)

  pub plan_ends : (plan_of s).place ≤ length s
  plan_ends = accepted.within

  pub at_most_64 : (plan_of s).network.nodes ≤ 64
  unfolding with_sets network_of
  at_most_64 = omega (arith, accepted.keeps_records.at_most_64_nodes, ap (λ net. net.nodes) accepted.network)
