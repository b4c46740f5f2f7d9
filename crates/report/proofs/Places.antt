-- Why a place fits: a list of actions stops within its bytes, since a record that is taken lies within them.
-- Assumes nothing.
use Prim.Native.Nat.{ℕ, zero, suc, ◌+◌, ◌≤◌}
use native.Mathlib.Omega.{arith}
use mathlib.Core.Path.{◌≡◌, refl}
use mathlib.Core.List.{List}
use lib.ListN.{length}
use Rattle.laws.proofs.Choice.{b_elim, lt_elim, eq_elim}
use Rattle.network.specs.declared.Network.{Network}
use Rattle.std.specs.Prelude.{Result, Ok, Err}
use Rattle.answers.specs.declared.Refusal.{Refusal}
use Rattle.actions.specs.declared.Act.{Act}
use Rattle.actions.specs.Records.{read_at}
use Rattle.actions.proofs.Records.{record_within}
use Rattle.synchronizer.specs.declared.State.{State}
use Rattle.synchronizer.specs.declared.Done.{Done}
use Rattle.synchronizer.specs.declared.Acted.{Acted}
use Rattle.synchronizer.specs.declared.Ran.{Ran}
use Rattle.synchronizer.specs.Wires.{Wires, wires_of}
use Rattle.synchronizer.specs.Entry.{acted, ran, in_range, done_in, acted_as, record_in, act_in, list_from, list_of}

module _ (w : Wires) (bytes : List ℕ) where
  record_ends : (s : State) (at : ℕ) (r : Result Act Refusal) → read_at bytes at ≡ r → at ≤ length bytes → at + (record_in w s r).place ≤ length bytes
  unfolding record_in acted_as
  record_ends s at (Err f) e h = omega arith
  record_ends s at (Ok x) e h =
      let d : Done = done_in w s x.kind x.p x.q in
      eq_elim (λ (a : Acted). at + a.place ≤ length bytes) d.answer 0 (acted 0 x.width d.state) (acted d.answer 0 d.state)
      (λ _. (record_within bytes at x.kind x.p x.q x.width e).2) (λ _. omega arith)

  action_ends : (s : State) (at : ℕ) → at ≤ length bytes → at + (act_in w s bytes at).place ≤ length bytes
  unfolding act_in
  action_ends s at h = record_ends s at (read_at bytes at) refl h

  list_from_ends : (turns : ℕ) (s : State) (at taken : ℕ) → at ≤ length bytes → (list_from turns w s bytes at taken).place ≤ length bytes
  unfolding list_from
  list_from_ends zero s at taken h = h
  list_from_ends (suc turns) s at taken h =
      lt_elim (λ (r : Ran). r.place ≤ length bytes) at (length bytes) _ (ran 0 at taken s)
      (λ _. eq_elim (λ (r : Ran). r.place ≤ length bytes) (act_in w s bytes at).answer 0 _ (ran (act_in w s bytes at).answer at taken s) (λ _. list_from_ends turns (act_in w s bytes at).state (at + (act_in w s bytes at).place) (taken + 1) (action_ends s at h)) (λ _. h))
      (λ _. h)

pub list_ends : (net : Network) (s : State) (bytes : List ℕ) → (list_of net s bytes).place ≤ length bytes
unfolding list_of
list_ends net s bytes =
    b_elim (λ (r : Ran). r.place ≤ length bytes) (in_range net s) (list_from (suc (length bytes)) (wires_of net) s bytes 0 0) (ran 17 0 0 s)
    (λ _. list_from_ends (wires_of net) bytes (suc (length bytes)) s 0 0 (omega arith))
    (λ _. omega arith)
