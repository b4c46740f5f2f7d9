-- What the test of an action answers to the code that goes on from it, and the answer of a row of the table that starts no round.
-- Assumes nothing.
use Rattle.std.specs.Prelude.{ℕ, ◌<◌, ◌≡◌, Bool, List, Result, IfOk}
use Rattle.laws.specs.Choice.{if_b, if_lt}
use Rattle.answers.specs.declared.Refusal.{Refusal}
use Rattle.answers.specs.Numbers.{answer_of}
use Rattle.actions.specs.declared.Kind.{Kind}
use Rattle.actions.specs.declared.Counter.{Counter}
use Rattle.actions.specs.Kinds.{count, count_in}
use Rattle.synchronizer.specs.declared.State.{State}
use Rattle.synchronizer.specs.Wires.{Wires}
use Rattle.synchronizer.specs.Answer.{own_in, answer_in}

-- 14 where the nodes do not stand as the row asks; 16 where the count needed is short; else the rest of the row decides
unfoldable pub plain_answer : Bool → ℕ → ℕ → ℕ → ℕ
plain_answer stands n has rest = if_b stands (if_lt n has rest 16) 14

-- the test shows an answer; and where it is 0, at which node or direction the action's own count stands, and that the count can rise
pub record Shows (counts : List ℕ) (k : Kind) (x answer : ℕ) (r : Result ℕ Refusal) : Type 0 where
  pub is : answer_of r ≡ answer
  pub taken : IfOk r (λ sub. (sub ≡ x) × (count_in counts (count k x) < 65535))

-- so it shows the answer of a row: its nodes stand as it asks or not, the count needed, and what the rest of it answers
abbrev pub RowShows : List ℕ → Kind → ℕ → Bool → Counter → ℕ → Result ℕ Refusal → Type 0
RowShows counts k x stands need rest =
    Shows counts k x (plain_answer stands (count_in counts (count k x)) (count_in counts need) rest)

-- the test shows the answer to an action, and its own count
abbrev pub TestShows : Wires → State → Kind → ℕ → ℕ → Result ℕ Refusal → Type 0
TestShows w s k p q = Shows s.counts k (own_in w k p q).1 (answer_in w s k p q)
