-- "Numbers that come back": those that one record of a plan decides.
-- Assumes nothing.
use Rattle.std.specs.Prelude.{ℕ}

abbrev pub accepted : ℕ
accepted = 0

-- "kind unknown"
abbrev pub kind_unknown : ℕ
kind_unknown = 1

-- "body cut short"
abbrev pub cut_short : ℕ
cut_short = 2

-- "record out of order or link not rising; kind 0 or end of bytes with no rounds or no node; end of bytes without kind 0"
abbrev pub out_of_order : ℕ
out_of_order = 3

-- "65th node or 129th link"
abbrev pub too_many : ℕ
too_many = 4

-- "rounds, link end or flag out of range"
abbrev pub out_of_range : ℕ
out_of_range = 5
