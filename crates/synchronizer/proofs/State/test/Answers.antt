-- `test`: without one of its nodes an action is 13.
use Prim.Native.Nat.{ℕ, ◌<◌, ◌≤◌}
use native.Mathlib.Omega.{arith}
use mathlib.Core.Bool.{Bool, false}
use mathlib.Core.Path.{◌≡◌, refl, sym}
use Rattle.std.specs.Prelude.{IsTrue, ◌↔◌}
use Rattle.answers.specs.declared.Refusal.TheVariants.{NoSuchNode}
use Rattle.synchronizer.proofs.Rows.{shows_as, shows_refused}
use Rattle.synchronizer.proofs.Answers.{no_first_node, no_second_node}
use Rattle.synchronizer.proofs.State.test.Goals as goal
use Rattle.synchronizer.proofs.State.test.Goals.{then-not-has-via-then-not-has, then-not-has-via-else-not-has+then-not-has-2}

-- a node that the tables do not have
beyond : (b : Bool) (p n : ℕ) → (IsTrue b ↔ p < n) → b ≡ false → n ≤ p
beyond b p n h f = grind arith

pub returns-then-not-has-clause-answer : goal.returns-then-not-has-clause-answer
returns-then-not-has-clause-answer c =
    elim c.then-not-has.branch [
      | then-not-has-via-then-not-has w ↦ shows_as _ _ _ 13 _ _ (sym (no_first_node _ _ _ _ _ (beyond _ _ _ c.has.ensures.used w.if-not-has.true))) (shows_refused _ _ _ 13 NoSuchNode refl)
      | then-not-has-via-else-not-has+then-not-has-2 w ↦ shows_as _ _ _ 13 _ _ (sym (no_second_node _ _ _ _ _ (beyond _ _ _ w.has-else-not-has.ensures.used w.if-not-has-2.true))) (shows_refused _ _ _ 13 NoSuchNode refl)
    ]
