-- "Numbers that come back".
-- Assumes nothing.
use Rattle.std.specs.Prelude.{ℕ, Option, Some, None, Result, Ok, Err, ⊤}
use Rattle.answers.specs.declared.Refusal.{Refusal}
use Rattle.answers.specs.declared.Refused.{Refused}
use Rattle.answers.specs.declared.Refusal.TheVariants.{KindUnknown, CutShort, OutOfOrder, TooMany, OutOfRange, Untied, Lost, Inside, NotOne, Unjoined, ActionUnknown, ActionCutShort, NoSuchNode, NoSuchLink, LastRoundOver, NeedMissing, NotInRange, QueueFull, TooLong, MoreRoundsThanPlanned, BufferTooShort, TooDeep, NoRoom}

-- document 01's table of numbers, column "No.", and document 02's 22 and 23
abbrev pub number_of : Refusal → ℕ
number_of KindUnknown = 1
number_of CutShort = 2
number_of OutOfOrder = 3
number_of TooMany = 4
number_of OutOfRange = 5
number_of Untied = 6
number_of Lost = 7
number_of Inside = 8
number_of NotOne = 9
number_of Unjoined = 10
number_of ActionUnknown = 11
number_of ActionCutShort = 12
number_of NoSuchNode = 13
number_of NoSuchLink = 14
number_of LastRoundOver = 15
number_of NeedMissing = 16
number_of NotInRange = 17
number_of QueueFull = 18
number_of TooLong = 19
number_of MoreRoundsThanPlanned = 20
number_of BufferTooShort = 21
number_of TooDeep = 22
number_of NoRoom = 23

-- "0: accepted", or the number of the refusal
abbrev pub answer_of : {T : Type 0} → Result T Refusal → ℕ
answer_of (Ok x) = 0
answer_of (Err e) = number_of e

-- refused at the place that a check found, if it found one
abbrev pub none_at : Option ℕ → Refusal → Result ⊤ Refused
none_at (Some first) refusal = Err (record { refusal = refusal; place = first })
none_at None refusal = Ok tt
