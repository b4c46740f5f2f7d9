-- A plan with its parents and flags taken from two lists: rounds, values and links are as before, and each node's parent and each link's flag is
-- the list's entry at its place.
-- Assumes nothing.
use Prim.Native.Nat.{ℕ, ◌<◌}
use mathlib.Core.Path.{◌≡◌, refl}
use mathlib.Core.List.{List}
use lib.ListN.{length, get_or}
use Rattle.records.specs.Plan.{Plan, PlanNode, PlanLink}
use Rattle.layout.specs.LaidOut.{parents_in, flags_in, SameWires}
use Rattle.layout.proofs.Fields.{each_with, each_length, each_new, each_old}

abbrev pub with_parent : ℕ → PlanNode → PlanNode
with_parent v x = record { parent = v; start = x.start }

abbrev pub with_flag : ℕ → PlanLink → PlanLink
with_flag v x = record { a = x.a; b = x.b; flag = v }

abbrev pub relaid : List ℕ → List ℕ → Plan → Plan
relaid parents flags p =
    record {
      rounds = p.rounds;
      nodes = each_with with_parent (λ i. get_or parents i 0) p.nodes;
      links = each_with with_flag (λ l. get_or flags l 0) p.links;
    }

module _ (parents flags : List ℕ) (p : Plan) where
  -- as many nodes and links
  pub relaid_nodes : length (relaid parents flags p).nodes ≡ length p.nodes
  relaid_nodes = each_length with_parent (λ i. get_or parents i 0) p.nodes

  pub relaid_links : length (relaid parents flags p).links ≡ length p.links
  relaid_links = each_length with_flag (λ l. get_or flags l 0) p.links

  -- "links, values and rounds are unchanged"
  pub relaid_same : SameWires p (relaid parents flags p)
  relaid_same =
      record {
        rounds = refl;
        starts = each_old with_parent (λ x. x.start) (λ v x. refl) (λ i. get_or parents i 0) p.nodes;
        lowers = each_old with_flag (λ x. x.a) (λ v x. refl) (λ l. get_or flags l 0) p.links;
        uppers = each_old with_flag (λ x. x.b) (λ v x. refl) (λ l. get_or flags l 0) p.links;
      }

  pub relaid_parent : (i : ℕ) → i < length p.nodes → get_or (parents_in (relaid parents flags p)) i 0 ≡ get_or parents i 0
  relaid_parent = each_new with_parent (λ x. x.parent) (λ v x. refl) (λ i. get_or parents i 0) p.nodes

  pub relaid_flag : (l : ℕ) → l < length p.links → get_or (flags_in (relaid parents flags p)) l 0 ≡ get_or flags l 0
  relaid_flag = each_new with_flag (λ x. x.flag) (λ v x. refl) (λ l. get_or flags l 0) p.links
