-- How many bytes a read brought, whether it came to an end or failed.
-- Assumes nothing.
use Rattle.std.specs.Prelude.{ℕ, Result, Ok, Err}
use Rattle.input.specs.declared.Stopped.{Stopped}

-- the bytes before the failure are there, too
abbrev pub count_of : Result ℕ Stopped → ℕ
count_of (Ok count) = count
count_of (Err stopped) = stopped.count
