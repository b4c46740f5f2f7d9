-- One record of a plan: which bytes it takes, and what stands at an offset of any bytes.
-- Assumes nothing.
use Rattle.std.specs.Prelude.{ℕ, ◌+◌, ◌*◌, ◌-◌, List, length, get_or, Result, Ok, Err}
use Rattle.laws.specs.Choice.{if_lt, if_eq}
use Rattle.answers.specs.declared.Refused.{Refused}
use Rattle.answers.specs.declared.Refusal.TheVariants.{KindUnknown, CutShort, OutOfOrder}
use Rattle.records.specs.declared.Record.{Record}
use Rattle.records.specs.declared.Record.TheVariants.{End, Rounds, Node, Link}
use Rattle.records.specs.declared.Cursor.{Cursor}

-- what stands at an offset of the bytes: nothing, where they end; a byte that is no plan's kind; a kind whose body runs past the end; or a
-- record, with the cursor past it
pub data Read : Type 0 where
  Nothing : Read
  Unknown : Read
  Short : Read
  Whole : Record → Cursor → Read

-- "Every record is one byte of kind, then a body whose length the kind fixes": 0 for kind 0, 2 for kind 1, 4 for kind 2, 3 for kind 3
unfoldable pub body_length : ℕ → ℕ
body_length kind = if_eq kind 0 0 (if_eq kind 1 2 (if_eq kind 2 4 3))

-- "Two-byte numbers have the high byte first"
abbrev pub pair_of : ℕ → ℕ → ℕ
pair_of high low = high * 256 + low

-- the record of this kind whose body begins at b: rounds; number, parent, start value; ends a and b, flag
unfoldable pub record_at : List ℕ → ℕ → ℕ → Record
record_at s kind b =
    if_eq kind 0 End
    (if_eq kind 1 (Rounds (pair_of (get_or s b 0) (get_or s (b + 1) 0)))
    (if_eq kind 2 (Node (get_or s b 0) (get_or s (b + 1) 0) (pair_of (get_or s (b + 2) 0) (get_or s (b + 3) 0)))
    (Link (get_or s b 0) (get_or s (b + 1) 0) (get_or s (b + 2) 0))))

-- what stands at an offset: nothing past the end, no kind above 3, a body that runs past the end, or the record and the offset past it
unfoldable pub read_at : List ℕ → ℕ → Read
read_at s at =
    if_lt at (length s)
    (if_lt 3 (get_or s at 0) Unknown
    (if_lt (length s - (at + 1)) (body_length (get_or s at 0)) Short
    (Whole (record_at s (get_or s at 0) (at + 1)) (record { at = at + 1 + body_length (get_or s at 0) }))))
    Nothing

-- a read as a cursor answers it: why there is no whole record and at which place, "record, or length"; or the record and the cursor past it
abbrev pub found_at : List ℕ → ℕ → Read → Result (Record × Cursor) Refused
found_at s at Nothing = Err (record { refusal = OutOfOrder; place = length s })
found_at s at Unknown = Err (record { refusal = KindUnknown; place = at })
found_at s at Short = Err (record { refusal = CutShort; place = at })
found_at s at (Whole r next) = Ok (r, next)
