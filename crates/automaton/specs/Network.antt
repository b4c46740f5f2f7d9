-- A network over any type of values, and what its parents and links give. Node numbers are plain numbers: a definition has a value for every
-- number, and theorems speak of those below n.
-- Assumes nothing.
use Rattle.std.specs.Prelude.{ℕ, Bool, not, List, eqb}
use Rattle.laws.specs.Choice.{both}
use Rattle.laws.specs.Below.{pick_below}

pub record Net (Value : Type 0) : Type 0 where
  -- how many nodes, and how many rounds
  pub n : ℕ
  pub rounds : ℕ
  -- "A node that names itself as parent is a root"
  pub parent : ℕ → ℕ
  -- a link joins the two nodes; a preferred link does
  pub link : ℕ → ℕ → Bool
  pub preferred : ℕ → ℕ → Bool
  -- the plan's start values, and what a slot holds before anything was heard: "all counts and slots are 0"
  pub start : ℕ → Value
  pub unheard : Value
  -- what an input makes of the own value and the neighbours' values, these in rising order of the neighbours' numbers
  pub rule : Value → List Value → Value

module _ {Value : Type 0} (net : Net Value) where
  unfoldable pub is_root : ℕ → Bool
  is_root p = eqb (net.parent p) p

  unfoldable pub neighbours : ℕ → List ℕ
  neighbours p = pick_below (net.link p) net.n

  -- "A node's children are the other nodes that name it as parent"
  unfoldable pub children : ℕ → List ℕ
  children p = pick_below (λ c. both (eqb (net.parent c) p) (not (eqb c p))) net.n

  unfoldable pub preferred_neighbours : ℕ → List ℕ
  preferred_neighbours p = pick_below (net.preferred p) net.n
