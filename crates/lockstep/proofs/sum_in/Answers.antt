-- `sum_in`: the chain gives the value that was heard from each member, and each is at most 65,535.
use Prim.Native.Nat.{ℕ, ◌≤◌, ◌*◌}
use native.Mathlib.Omega.{arith}
use borrow.Author.Rules.{rules}
use mathlib.Core.Path.{◌≡◌, ◌∙◌, ap}
use lib.ListN.{get_or}
use Rattle.std.proofs.lemmas.Iterator.{YieldsList-from_map}
use Rattle.std.proofs.lemmas.Iterator.Consumers.{YieldsList-at, sum_from_yields_List, fits_from_yields_list}
use Rattle.nodeset.specs.Marks.{sum_in, size_of}
use Rattle.nodeset.proofs.Members.{sum_in_at_most, size_at_most_64}
use Rattle.nodeset.proofs.Listed.{members_yield, sum_of_values}
use Rattle.lockstep.proofs.sum_in.Goals as goal

pub sum-requires-clause-fits : goal.sum-requires-clause-fits
sum-requires-clause-fits c =
    let f : ℕ → ℕ = λ q. get_or c.args.heard.now q 0 in
    let bound : sum_in f c.members.result ≤ size_of c.members.result * 65535 = sum_in_at_most f 65535 c.members.result (λ q _. omega (arith, c.fits-heard q)) in
    fits_from_yields_list c.map.result _
    (YieldsList-from_map _ f (YieldsList-at c.map.ensures.source (members_yield _)) c.map.ensures.closure (λ x r q k. search rules))
    (omega (arith, sum_of_values f c.members.result, size_at_most_64 c.members.result))

pub returns : goal.returns
returns c =
    let f : ℕ → ℕ = λ q. get_or c.args.heard.now q 0 in
    let bound : sum_in f c.args.set.marks ≤ size_of c.args.set.marks * 65535 = sum_in_at_most f 65535 c.args.set.marks (λ q _. omega (arith, c.fits-heard q)) in
    let total = sum_from_yields_List c.map.result _ c.sum.ensures.ran (YieldsList-from_map _ f (YieldsList-at c.map.ensures.source (members_yield _)) c.map.ensures.closure (λ x r q k. search rules)) in
    let is : c.sum.result ≡ sum_in f c.args.set.marks = total ∙ sum_of_values f c.members.result ∙ ap (sum_in f) c.members.ensures in
    (is, omega arith)
