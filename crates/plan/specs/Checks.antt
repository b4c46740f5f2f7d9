-- The plan reader's answer for any bytes: the records, and "then over the whole plan, in this order: 6, 7, 8, 9, 10". `Accepted` says of every
-- answer when it is given.
-- Assumes nothing.
use Rattle.std.specs.Prelude.{ℕ, List, Option, Some, None, Result, Ok, Err, ⊤}
use Rattle.laws.specs.Choice.{if_lt, if_eq}
use Rattle.answers.specs.declared.Refusal.{Refusal}
use Rattle.answers.specs.declared.Refused.{Refused}
use Rattle.network.specs.declared.Network.{Network}
use Rattle.network.specs.Sets.{with_sets}
use Rattle.records.specs.Planned.{Planned}
use Rattle.records.specs.Numbers.{accepted}
use Rattle.records.specs.Reader.{refused_with, accepted_with, lists_of}
use Rattle.links.specs.Links.{nodes_of, links_of}
use Rattle.tree.specs.Checks.{first_untied, first_lost}
use Rattle.clusters.specs.Clusters.{first_inside, first_not_one}
use Rattle.joined.specs.Joined.{first_unjoined}
use Rattle.plan.specs.Numbers.{untied, lost, inside, not_one, unjoined}

-- "lowest such node", "first such link": refused there if there is one below the count, and else `rest`
abbrev pub unless_below : ℕ → ℕ → ℕ → Planned → Planned
unless_below first count number rest = if_lt first count (refused_with number first) rest

-- five walks in this order, of a plan that took n bytes
unfoldable pub checks_of : Network → ℕ → Planned
checks_of net n =
    unless_below (first_untied net) (nodes_of net) untied
    (unless_below (first_lost net) (nodes_of net) lost
    (unless_below (first_inside net) (links_of net) inside
    (unless_below (first_not_one net) (links_of net) not_one
    (unless_below (first_unjoined net) (nodes_of net) unjoined (accepted_with n net)))))

-- the answer to a plan's bytes. Only a plan with no fault of 1 to 5 is looked at as a whole, with its sets filled
unfoldable pub plan_of : List ℕ → Planned
plan_of s =
    if_eq (lists_of s).number accepted (checks_of (with_sets (lists_of s).network) (lists_of s).place) (lists_of s)
