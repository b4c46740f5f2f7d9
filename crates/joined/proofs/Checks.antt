-- Check 10 answers the first breach of "All nodes are joined through links": the node count exactly if every node has a path from node 0, and
-- w exactly if w is the lowest that has none.
-- Assumes nothing.
use Prim.Native.Nat.{ℕ}
use native.Mathlib.Omega.{arith}
use mathlib.Core.Path.{◌≡◌}
use mathlib.Core.Logic.{◌↔◌}
use mathlib.Core.Bool.{true, not}
use borrow.Author.Tests.{not-true, not-false}
use Rattle.laws.proofs.Choice.{true_not_false}
use Rattle.nodeset.specs.Marks.{member}
use Rattle.network.specs.declared.Network.{Network}
use Rattle.links.specs.Links.{nodes_of, links_of}
use Rattle.links.specs.Breach.{Breach}
use Rattle.links.proofs.Breach.{first_is_breach}
use Rattle.joined.specs.Joined.{joined_marks, first_unjoined, JoinedIn}
use Rattle.joined.proofs.Grow.{joined_exactly}

module _ (net : Network) where
  marks : ℕ
  marks = joined_marks net.lowers net.uppers (links_of net) (nodes_of net)

  marked_exactly : (p : ℕ) → (member (joined_marks net.lowers net.uppers (links_of net) (nodes_of net)) p ≡ true) ↔ JoinedIn net p
  marked_exactly = joined_exactly net.lowers net.uppers (links_of net) (nodes_of net) (omega arith)

  pub unjoined_is_breach : Breach (JoinedIn net) (nodes_of net) (first_unjoined net)
  unfolding first_unjoined marks
  unjoined_is_breach =
      first_is_breach (λ p. not (member marks p)) (JoinedIn net) (nodes_of net) (λ p _ e. (marked_exactly p).0 (not-false (member marks p) e))
      (λ p _ e j. true_not_false (member marks p) ((marked_exactly p).1 j) (not-true (member marks p) e))
