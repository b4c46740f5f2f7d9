-- The body length of each kind of record that has one.
-- Assumes nothing.
use Prim.Native.Nat.{ℕ}
use mathlib.Core.Path.{◌≡◌, ◌∙◌}
use Rattle.laws.specs.Choice.{if_b, if_eq}
use Rattle.laws.proofs.Choice.{if_eq_no}
use Rattle.records.specs.Record.{body_length}

pub rounds_body : (kind : ℕ) → kind ≡ 1 → body_length kind ≡ 2
unfolding body_length if_eq if_b
rounds_body kind e = rw e

pub node_body : (kind : ℕ) → kind ≡ 2 → body_length kind ≡ 4
unfolding body_length if_eq if_b
node_body kind e = rw e

pub link_body : (kind : ℕ) → (kind ≡ 0 → ⊥) → (kind ≡ 1 → ⊥) → (kind ≡ 2 → ⊥) → body_length kind ≡ 3
unfolding body_length
link_body kind d e f = if_eq_no kind 0 0 _ d ∙ if_eq_no kind 1 2 _ e ∙ if_eq_no kind 2 4 3 f
