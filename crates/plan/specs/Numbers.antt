-- "Numbers that come back": those of a plan as a whole.
-- Assumes nothing.
use Rattle.std.specs.Prelude.{ℕ}

-- "parent not below node count, or no link to it"
abbrev pub untied : ℕ
untied = 6

-- "parents never reach a root"
abbrev pub lost : ℕ
lost = 7

-- "preferred link inside a cluster"
abbrev pub inside : ℕ
inside = 8

-- "two joined clusters with none or several preferred"
abbrev pub not_one : ℕ
not_one = 9

-- "not joined to node 0"
abbrev pub unjoined : ℕ
unjoined = 10
