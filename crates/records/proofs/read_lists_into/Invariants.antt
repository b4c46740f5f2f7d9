-- `read_lists_into`: between two records the loop keeps `Reading`, and each return is one of its ways out; what was lent stays zeros up to kind 0. A
-- record has at least its kind byte, so the bytes that are left fall at each turn.
use Prim.Native.Nat.{◌-◌}
use mathlib.Core.Path.{◌≡◌}
use lib.ListN.{length}
use Rattle.network.specs.Zeros.{zero_network}
use Rattle.records.proofs.Turns.{Reading}
use Rattle.records.proofs.read_lists_into.Given as goal

abbrev pub invariant-loop-rec : goal.invariant-loop-rec
invariant-loop-rec l = record { lent : l.network ≡ zero_network; reading : Reading l.bytes l.cursor.at l.lists }

abbrev pub decreases-loop-rec : goal.decreases-loop-rec
decreases-loop-rec l = length l.bytes - l.cursor.at
