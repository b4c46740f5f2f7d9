-- "Numbers that come back": those of a layout, after a plan's own.
-- Assumes nothing.
use Rattle.std.specs.Prelude.{ℕ}

-- "depth above 63"
abbrev pub too_deep : ℕ
too_deep = 22

-- "buffer shorter than the plan"
abbrev pub no_room : ℕ
no_room = 23
