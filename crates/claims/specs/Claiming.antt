-- The claims as one loop of n steps. The list of claims is the queue: step i takes its i-th entry, and where there is none yet the lowest
-- unclaimed node is put there as a root; then that node, if it lies above the depth asked for, puts its unclaimed neighbours at the end, lowest
-- first. `Claimed` has the rule that this keeps.
-- Assumes nothing.
use Rattle.std.specs.Prelude.{ℕ, zero, suc, ◌+◌, Bool, List, eqb, get_or, set, replicate}
use Rattle.std.specs.Int.Bits.{bit_and}
use Rattle.laws.specs.Choice.{if_lt, if_eq}
use Rattle.laws.specs.Below.{fold_below, first_of}
use Rattle.nodeset.specs.Marks.{member, inserted, removed, size_of, lowest_of}
use Rattle.nodeset.specs.declared.NodeSet.{NodeSet}
use Rattle.claims.specs.Claimed.{Claims}

-- the claims so far: the fields of the code's `Claiming`, which has their meaning beside each
pub record Claiming : Type 0 where
  pub count : ℕ
  pub unclaimed : NodeSet
  pub order : List ℕ
  pub by : List ℕ
  pub deep : List ℕ

-- x claims p, at depth v
unfoldable pub put : ℕ → ℕ → ℕ → Claiming → Claiming
put x p v s =
    record {
      count = s.count + 1;
      unclaimed = record { marks = removed s.unclaimed.marks p };
      order = set s.order s.count p;
      by = set s.by p x;
      deep = set s.deep p v;
    }

-- the marks of the nodes below n
unfoldable pub all_nodes : ℕ → ℕ
all_nodes n = fold_below (λ p marks. inserted marks p) 0 n

-- none of n nodes is claimed
unfoldable pub nobody : ℕ → Claiming
nobody n =
    record {
      count = 0;
      unclaimed = record { marks = all_nodes n };
      order = replicate 64 0;
      by = replicate 64 0;
      deep = replicate 64 0;
    }

-- "take the lowest unclaimed node as a root", if no i-th node is claimed yet
unfoldable pub rooted : ℕ → Claiming → Claiming
rooted i s = if_lt i s.count s (put (lowest_of s.unclaimed.marks) (lowest_of s.unclaimed.marks) 0 s)

-- the unclaimed nodes among these
abbrev pub unclaimed_of : ℕ → Claiming → ℕ
unclaimed_of marks s = bit_and marks s.unclaimed.marks

-- x claims those of its neighbours that are unclaimed, "its lowest neighbours first", at depth v
unfoldable pub claims_each : ℕ → ℕ → ℕ → ℕ → Claiming → Claiming
claims_each zero neighbours x v s = s
claims_each (suc turns) neighbours x v s =
    if_eq (unclaimed_of neighbours s) 0 s (claims_each turns neighbours x v (put x (lowest_of (unclaimed_of neighbours s)) v s))

-- as many turns as there are unclaimed nodes are enough
unfoldable pub claims_all : ℕ → ℕ → ℕ → Claiming → Claiming
claims_all neighbours x v s = claims_each (size_of s.unclaimed.marks) neighbours x v s

-- x claims "down to that depth"; sets has each node's neighbours
unfoldable pub spread : List ℕ → ℕ → ℕ → Claiming → Claiming
spread sets depth x s = if_lt (get_or s.deep x 0) depth (claims_all (get_or sets x 0) x (get_or s.deep x 0 + 1) s) s

-- step i: where nobody is in turn a root is taken; then the i-th claimed node claims
unfoldable pub step : List ℕ → ℕ → ℕ → Claiming → Claiming
step sets depth i s = spread sets depth (get_or (rooted i s).order i 0) (rooted i s)

-- "and repeat", until each of n nodes has had its turn
unfoldable pub claim_all : List ℕ → ℕ → ℕ → Claiming
claim_all sets n depth = fold_below (step sets depth) (nobody n) n

-- "The parent is the node that claimed it", for each of n nodes; 0 in the places past them
unfoldable pub parents_of : List ℕ → ℕ → ℕ → List ℕ
parents_of sets n depth = (claim_all sets n depth).by

-- ---- what the lists say

-- the place of p among the first m entries, and m where it is not there
unfoldable pub place_of : (ℕ → ℕ) → ℕ → ℕ → ℕ
place_of order m p = first_of (λ k. eqb (order k) p) m

abbrev pub claims_of : Claiming → Claims
claims_of s =
    record {
      order = λ k. get_or s.order k 0;
      when = place_of (λ k. get_or s.order k 0) s.count;
      by = λ p. get_or s.by p 0;
      deep = λ p. get_or s.deep p 0;
    }

-- p is a neighbour of x, by the sets
abbrev pub near_by : List ℕ → ℕ → ℕ → Bool
near_by sets x p = member (get_or sets x 0) p
