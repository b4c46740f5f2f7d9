-- `link`: an end above 63 changes neither table; else each end goes into the other's set, and where the flag serves so in the second table.
use borrow.Author.Rules.{rules}
use Prim.Native.Nat.{◌≤◌}
use mathlib.Core.Logic.{◌⊎◌, inl, inr}
use Rattle.laws.proofs.Choice.{picks}
use Rattle.network.specs.Sets.{linked}
use Rattle.network.proofs.Tables.{linked_past}
use Rattle.network.proofs.link.Goals as goal

pub returns-then-flag-gt0 : goal.returns-then-flag-gt0
unfolding linked
returns-then-flag-gt0 c =
    rw (c.add-then-flag-gt0-2.ensures, c.add-then-flag-gt0.ensures, c.add-then-b-lt64.ensures, c.add.ensures)
    (search (rules, picks))

pub returns-else-flag-gt0 : goal.returns-else-flag-gt0
unfolding linked
returns-else-flag-gt0 c = rw (c.add-then-b-lt64.ensures, c.add.ensures) (search (rules, picks))

pub returns-else-a-lt64 : goal.returns-else-a-lt64
returns-else-a-lt64 c =
    let past : (64 ≤ c.args.a) ⊎ (64 ≤ c.args.b) = elim c.else-a-lt64.either [ inl h ↦ inr h.1 | inr h ↦ inl h ] in
    (linked_past _ _ _ _ 0 past, linked_past _ _ _ _ 1 past)
