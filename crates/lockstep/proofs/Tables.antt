-- What the answer of a table says of the network, the rounds and the buffer, and what the buffer holds afterwards, entry by entry.
-- Assumes nothing.
use Prim.Native.Nat.{ℕ, ◌<◌, ◌≤◌}
use native.Mathlib.Omega.{arith}
use mathlib.Core.Path.{◌≡◌, refl, ◌∙◌, ap}
use mathlib.Core.Bool.{true}
use mathlib.Core.List.{List}
use lib.ListN.{length, get_or}
use Rattle.laws.specs.Choice.{if_lt}
use Rattle.laws.specs.Below.{over_below}
use Rattle.laws.proofs.Choice.{b_elim, lt_elim, eq_elim, if_eq_yes, if_eq_no}
use Rattle.laws.proofs.Below.{length_over, over_below_lem, over_above}
use Rattle.network.specs.declared.Network.{Network}
use Rattle.network.specs.Valid.{valid_network}
use Rattle.lockstep.specs.Rounds.{lockstep_of}
use Rattle.lockstep.specs.Table.{table_number, table_of}
use Rattle.lockstep.proofs.Rounds.{lockstep_start}

-- what an accepted table may rest on
pub record Accepted (net : Network) (rounds room : ℕ) : Type 0 where
  pub valid : valid_network net ≡ true
  pub in_rounds_lem : rounds ≤ net.rounds
  pub has_room : net.nodes ≤ room

pub accepted : (net : Network) (rounds room : ℕ) → table_number net rounds room ≡ 0 → Accepted net rounds room
unfolding table_number
accepted net rounds room =
    b_elim (λ x. x ≡ 0 → Accepted net rounds room) (valid_network net) (if_lt net.rounds rounds 20 (if_lt room net.nodes 21 0)) 17
    (λ v. lt_elim (λ x. x ≡ 0 → Accepted net rounds room) net.rounds rounds 20 (if_lt room net.nodes 21 0) (λ _ e. absurd (omega arith))
    (λ k. lt_elim (λ x. x ≡ 0 → Accepted net rounds room) room net.nodes 21 0 (λ _ e. absurd (omega arith))
    (λ r _. record { valid = v; in_rounds_lem = k; has_room = r })))
    (λ _ e. absurd (omega arith))

module _ (net : Network) (rounds : ℕ) (out : List ℕ) where
  abbrev number : ℕ
  number = table_number net rounds (length out)

  abbrev value : ℕ → ℕ
  value p = get_or (lockstep_of net rounds) p 0

  -- a refused table is not written
  pub refused_unwritten : 0 < number → table_of net rounds out ≡ out
  unfolding table_of
  refused_unwritten h = if_eq_no number 0 (over_below value net.nodes out) out (λ e. omega arith)

  -- an accepted one has the nodes' values of the asked rounds
  pub accepted_written : number ≡ 0 → table_of net rounds out ≡ over_below value net.nodes out
  unfolding table_of
  accepted_written e = if_eq_yes number 0 (over_below value net.nodes out) out e

  -- the buffer is as long as it was
  pub table_length : length (table_of net rounds out) ≡ length out
  unfolding table_of
  table_length =
      eq_elim (λ l. length l ≡ length out) number 0 (over_below value net.nodes out) out (λ _. length_over value net.nodes out) (λ _. refl)

  -- the entry of a node is its value after so many rounds
  pub table_at : number ≡ 0 → (p : ℕ) → p < net.nodes → get_or (table_of net rounds out) p 0 ≡ value p
  table_at e p h =
      ap (λ l. get_or l p 0) (accepted_written e)
      ∙ over_below_lem value net.nodes out p 0 h (omega (arith, (accepted net rounds (length out) e).has_room))

  -- "Table entries past the node count are not written"
  pub table_past : (p : ℕ) → net.nodes ≤ p → get_or (table_of net rounds out) p 0 ≡ get_or out p 0
  unfolding table_of
  table_past p h =
      eq_elim (λ l. get_or l p 0 ≡ get_or out p 0) number 0 (over_below value net.nodes out) out (λ _. over_above value net.nodes out p 0 h) (λ _. refl)

-- a table of 0 rounds has the start values
pub table_of_none : (net : Network) (out : List ℕ) → table_number net 0 (length out) ≡ 0 → table_of net 0 out ≡ over_below (λ p. get_or net.starts p 0) net.nodes out
table_of_none net out e =
    accepted_written net 0 out e ∙ ap (λ xs. over_below (λ p. get_or xs p 0) net.nodes out) (lockstep_start net)
