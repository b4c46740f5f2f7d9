-- Clusters: "its cluster is all nodes whose parents lead to it".
-- Assumes nothing.
use Rattle.std.specs.Prelude.{ℕ, zero, suc, ◌≡◌, true}
use Rattle.automaton.specs.Network.{Net}

module _ {Value : Type 0} (net : Net Value) where
  -- k steps along the parents; a root is its own parent, so the walk stays there
  unfoldable pub climb : ℕ → ℕ → ℕ
  climb zero p = p
  climb (suc k) p = climb k (net.parent p)

  -- where the parents of p lead: a walk of n steps passes every node of a chain
  unfoldable pub root_of : ℕ → ℕ
  root_of p = climb net.n p

  -- two nodes "in one cluster, or in two clusters joined by a link"
  pub data Near (p q : ℕ) : Type 0 where
    together : root_of p ≡ root_of q → Near p q
    joined : (x y : ℕ) → net.link x y ≡ true → root_of x ≡ root_of p → root_of y ≡ root_of q → Near p q
