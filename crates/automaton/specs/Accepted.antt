-- What demand 3 needs of an accepted plan's network, each with the plan check that gives it.
-- Assumes nothing.
use Rattle.std.specs.Prelude.{ℕ, ◌<◌, ◌≡◌, true}
use Rattle.automaton.specs.Network.{Net}
use Rattle.automaton.specs.Clusters.{root_of}

-- u and v are the ends of a preferred link, u in the cluster of x and v in that of y
pub record Joining {Value : Type 0} (net : Net Value) (x y : ℕ) : Type 0 where
  pub u : ℕ
  pub v : ℕ
  pub preferred : net.preferred u v ≡ true
  pub u_below : u < net.n
  pub v_below : v < net.n
  pub u_side : root_of net u ≡ root_of net x
  pub v_side : root_of net v ≡ root_of net y

pub record Accepted {Value : Type 0} (net : Net Value) : Type 0 where
  -- 6: "parent not below node count"
  pub parent_below : (p : ℕ) → p < net.n → net.parent p < net.n
  -- 7: "Following parents from a node must end at a root"
  pub root_reached : (p : ℕ) → p < net.n → net.parent (root_of net p) ≡ root_of net p
  -- a link of the plan joins its ends both ways
  pub both_ways : (p q : ℕ) → net.link p q ≡ true → net.link q p ≡ true
  -- 9: "For each two clusters with any link between them, exactly one of these links is preferred"; that there is one is enough
  pub joining : (x y : ℕ) → net.link x y ≡ true → (root_of net x ≡ root_of net y → ⊥) → Joining net x y
