-- Rules 3, 4 and 5 of one whole record, as guards in document 01's order: the number of the lowest rule that the record breaks after the
-- records read so far, and 0 where it breaks none. `Keeps` says the same in propositions. A network that has seen no kind 1 has rounds 0.
-- Assumes nothing.
use Rattle.std.specs.Prelude.{ℕ, ◌-◌, Bool, true, get_or}
use Rattle.laws.specs.Choice.{if_b, if_lt, if_eq}
use Rattle.network.specs.declared.Network.{Network}
use Rattle.network.specs.Valid.{rises}
use Rattle.records.specs.declared.Record.{Record}
use Rattle.records.specs.declared.Record.TheVariants.{End, Rounds, Node, Link}
use Rattle.records.specs.Numbers.{accepted, out_of_order, too_many, out_of_range}

-- "one kind 1"; "rounds, 1 to 10,000"
unfoldable pub rounds_rule : ℕ → ℕ → ℕ
rounds_rule rounds v = if_lt 0 rounds out_of_order (if_eq v 0 out_of_range (if_lt 10000 v out_of_range accepted))

-- "then nodes numbered 0, 1, 2.. in order, then links"; "Nodes 1 to 64"
unfoldable pub node_rule : ℕ → ℕ → ℕ → ℕ → ℕ
node_rule rounds nodes links number =
    if_eq rounds 0 out_of_order (if_lt 0 links out_of_order (if_eq number nodes (if_lt nodes 64 accepted too_many) out_of_order))

-- "links in strictly rising order of (a, b)": the link (a, b) stands above the last one, if there is one
unfoldable pub follows_of : Network → ℕ → ℕ → Bool
follows_of net a b = if_eq net.links 0 true (rises (get_or net.lowers (net.links - 1) 0) (get_or net.uppers (net.links - 1) 0) a b)

-- "none before the first node"; "links 0 to 128"; "A link needs a < b < node count"; "flag 0 ordinary or 1 preferred"
unfoldable pub link_rule : ℕ → ℕ → Bool → ℕ → ℕ → ℕ → ℕ
link_rule nodes links follows a b flag =
    if_eq nodes 0 out_of_order
    (if_b follows
    (if_lt links 128 (if_lt a b (if_lt b nodes (if_lt flag 2 accepted out_of_range) out_of_range) out_of_range) too_many)
    out_of_order)

-- "kind 0 .. with no rounds or no node": no node stands before kind 1
unfoldable pub end_rule : ℕ → ℕ
end_rule nodes = if_eq nodes 0 out_of_order accepted

abbrev pub rule_of : Network → Record → ℕ
rule_of net End = end_rule net.nodes
rule_of net (Rounds v) = rounds_rule net.rounds v
rule_of net (Node number parent start) = node_rule net.rounds net.nodes net.links number
rule_of net (Link a b flag) = link_rule net.nodes net.links (follows_of net a b) a b flag
