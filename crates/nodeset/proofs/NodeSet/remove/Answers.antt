-- `NodeSet::remove`: a member's mark is 1, so its weight can be taken off.
use Prim.Native.Nat.{◌<◌}
use mathlib.Core.Path.{◌≡◌, sym, ◌∙◌}
use mathlib.Core.Bool.{true}
use borrow.Author.Rules.{rules}
use Rattle.laws.proofs.Choice.{picks}
use Rattle.nodeset.specs.Marks.{member, removed}
use Rattle.nodeset.proofs.Digits.{digit_weighs}
use Rattle.nodeset.proofs.Marks.{member_below, member_digit, shifted_one}
use Rattle.nodeset.proofs.NodeSet.remove.Goals as goal
use Rattle.nodeset.proofs.NodeSet.remove.Goals.{Else-not-contains}

had : (c : Else-not-contains) → member c.args.self.marks c.args.node ≡ true
had c = sym c.contains.ensures ∙ c.if-not-contains.false

low : (c : Else-not-contains) → c.args.node < 64
low c = member_below c.args.self.marks c.args.node (had c)

pub overflow_shl-result : goal.overflow_shl-result
overflow_shl-result c = low (goal.at.overflow_shl-result c).Else-not-contains

pub overflow_sub-result : goal.overflow_sub-result
overflow_sub-result c =
    let node = c.args.node in
    let marks = c.args.self.marks in
    rw (shifted_one node (low (goal.at.overflow_sub-result c).Else-not-contains)) (digit_weighs node marks (member_digit marks node (had (goal.at.overflow_sub-result c).Else-not-contains)))

pub returns-then-not-contains : goal.returns-then-not-contains
unfolding removed
returns-then-not-contains c = rw (← c.contains.ensures) (search (rules, picks))

pub returns : goal.returns
unfolding removed
returns c = rw (shifted_one c.args.node (low (goal.at.returns c).Else-not-contains), ← c.contains.ensures) (search (rules, picks))
