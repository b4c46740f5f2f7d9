-- A list of actions in other words: its records handed in one by one as single actions, and the methods called in turn. And how many records
-- stand before a place. `proofs/InTurn.antt` shows that the list comes to the same.
-- Assumes nothing.
use Rattle.std.specs.Prelude.{ℕ, zero, suc, ◌+◌, List, length, drop, Result, Ok, Err}
use Rattle.laws.specs.Choice.{if_lt, if_eq}
use Rattle.answers.specs.declared.Refusal.{Refusal}
use Rattle.answers.specs.Numbers.{number_of}
use Rattle.network.specs.declared.Network.{Network}
use Rattle.actions.specs.declared.Act.{Act}
use Rattle.actions.specs.Records.{read_at}
use Rattle.synchronizer.specs.declared.State.{State}
use Rattle.synchronizer.specs.declared.Ran.{Ran}
use Rattle.synchronizer.specs.Entry.{ran, done_of, act_of}

-- a result whose places and number count from so many bytes and actions on
abbrev pub further : ℕ → ℕ → Ran → Ran
further place taken r = ran r.answer (place + r.place) (taken + r.taken) r.state

module _ (net : Network) where
  -- the first action of what is left, then the rest of it, up to a refusal
  unfoldable pub one_by_one : ℕ → State → List ℕ → Ran
  one_by_one zero s bytes = ran 0 0 0 s
  one_by_one (suc turns) s bytes =
      if_lt 0 (length bytes)
      (if_eq (act_of net s bytes).answer 0
      (further (act_of net s bytes).place 1 (one_by_one turns (act_of net s bytes).state (drop (act_of net s bytes).place bytes)))
      (ran (act_of net s bytes).answer 0 0 s))
      (ran 0 0 0 s)

  -- what a record comes to by its kind's method, where what follows an action that is taken is given
  unfoldable pub called : (State → ℕ → Ran) → State → ℕ → ℕ → Result Act Refusal → Ran
  called on s at taken (Err e) = ran (number_of e) at taken s
  called on s at taken (Ok a) =
      if_eq (done_of net s a.kind a.p a.q).answer 0 (on (done_of net s a.kind a.p a.q).state (at + a.width))
      (ran (done_of net s a.kind a.p a.q).answer at taken s)

  -- the method that each record names, one after the other, up to a refusal
  unfoldable pub by_methods : ℕ → State → List ℕ → ℕ → ℕ → Ran
  by_methods zero s bytes at taken = ran 0 at taken s
  by_methods (suc turns) s bytes at taken =
      if_lt at (length bytes) (called (λ t to. by_methods turns t bytes to (taken + 1)) s at taken (read_at bytes at)) (ran 0 at taken s)

-- how many records stand from one place of the bytes up to another
unfoldable pub width_of : Result Act Refusal → ℕ
width_of (Err e) = 0
width_of (Ok a) = a.width

unfoldable pub records_between : ℕ → List ℕ → ℕ → ℕ → ℕ
records_between zero bytes at to = 0
records_between (suc turns) bytes at to = if_lt at to (suc (records_between turns bytes (at + width_of (read_at bytes at)) to)) 0
