-- What holds of the claims at every step of the loop, so that no index is out of range.
-- Assumes nothing.
use Rattle.std.specs.Prelude.{ℕ, ◌+◌, ◌^◌, ◌<◌, ◌≤◌, get_or}
use Rattle.nodeset.specs.Marks.{size_of}
use Rattle.claims.specs.declared.Claiming.TheInside.{Inside}
use Rattle.claims.specs.Claiming.{Claiming}

-- the fields of the code's claims, as the definitions have them
abbrev pub seen : Inside → Claiming
seen s =
    record { count = s.count; unclaimed = s.unclaimed; order = s.order; by = s.by; deep = s.deep }

-- how many nodes there are, claimed or not
abbrev pub nodes_of : Claiming → ℕ
nodes_of s = s.count + size_of s.unclaimed.marks

pub record Sound (s : Claiming) : Type 0 where
  pub few : nodes_of s ≤ 64
  pub marks_fit : s.unclaimed.marks < 2 ^ 64
  -- who is claimed is a node
  pub nodes : (k : ℕ) → get_or s.order k 0 < 64
