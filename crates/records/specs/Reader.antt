-- The plan's records from first to last: "Plan checks, record by record from the start: 1, 2, 3, 4, 5". The first record with a fault decides,
-- and kind 0 ends the plan. `Keeps` says of every answer when it is given.
-- Assumes nothing.
use Rattle.std.specs.Prelude.{ℕ, zero, suc, ◌+◌, ◌<◌, Bool, true, false, List, length, set}
use Rattle.laws.specs.Choice.{if_b, if_eq}
use Rattle.network.specs.declared.Network.{Network}
use Rattle.network.specs.Zeros.{zero_network}
use Rattle.records.specs.declared.Record.{Record}
use Rattle.records.specs.declared.Record.TheVariants.{End, Rounds, Node, Link}
use Rattle.records.specs.Numbers.{accepted, kind_unknown, cut_short, out_of_order}
use Rattle.records.specs.Planned.{Planned}
use Rattle.records.specs.Record.{Read, Nothing, Unknown, Short, Whole, read_at}
use Rattle.records.specs.Rules.{rule_of}

-- the network with one more record in its lists
unfoldable pub rounds_added : Network → ℕ → Network
rounds_added net v =
    record {
      nodes = net.nodes;
      links = net.links;
      rounds = v;
      parents = net.parents;
      starts = net.starts;
      lowers = net.lowers;
      uppers = net.uppers;
      flags = net.flags;
      neighbours = net.neighbours;
      children = net.children;
      preferred = net.preferred;
    }

unfoldable pub node_added : Network → ℕ → ℕ → Network
node_added net parent start =
    record {
      nodes = net.nodes + 1;
      links = net.links;
      rounds = net.rounds;
      parents = set net.parents net.nodes parent;
      starts = set net.starts net.nodes start;
      lowers = net.lowers;
      uppers = net.uppers;
      flags = net.flags;
      neighbours = net.neighbours;
      children = net.children;
      preferred = net.preferred;
    }

unfoldable pub link_added : Network → ℕ → ℕ → ℕ → Network
link_added net a b flag =
    record {
      nodes = net.nodes;
      links = net.links + 1;
      rounds = net.rounds;
      parents = net.parents;
      starts = net.starts;
      lowers = set net.lowers net.links a;
      uppers = set net.uppers net.links b;
      flags = set net.flags net.links flag;
      neighbours = net.neighbours;
      children = net.children;
      preferred = net.preferred;
    }

abbrev pub add_of : Network → Record → Network
add_of net End = net
add_of net (Rounds v) = rounds_added net v
add_of net (Node number parent start) = node_added net parent start
add_of net (Link a b flag) = link_added net a b flag

-- there is a place in the lists for the record
abbrev pub HasRoom : Network → Record → Type 0
HasRoom net End = Unit {0}
HasRoom net (Rounds v) = Unit {0}
HasRoom net (Node number parent start) = net.nodes < 64
HasRoom net (Link a b flag) = net.links < 128

-- kind 0 ends the plan
abbrev pub closes_of : Record → Bool
closes_of End = true
closes_of (Rounds v) = false
closes_of (Node number parent start) = false
closes_of (Link a b flag) = false

-- number, place and network
abbrev pub answered : ℕ → ℕ → Network → Planned
answered number place net = record { number = number; place = place; network = net }

-- "A refused plan hands back a network of zeros"
abbrev pub refused_with : ℕ → ℕ → Planned
refused_with number place = answered number place zero_network

-- "The plan reader answers also how many bytes the plan took"
abbrev pub accepted_with : ℕ → Network → Planned
accepted_with place net = answered accepted place net

-- what the record at an offset comes to after the network of those before it, where `rest` reads on from the next offset. Past the last
-- byte there is no kind 0: 3, and "record, or length" for its place
unfoldable pub turn : List ℕ → ℕ → Network → (ℕ → Network → Planned) → Read → Planned
turn s at net rest Nothing = refused_with out_of_order (length s)
turn s at net rest Unknown = refused_with kind_unknown at
turn s at net rest Short = refused_with cut_short at
turn s at net rest (Whole r next) =
    if_eq (rule_of net r) accepted
    (if_b (closes_of r) (accepted_with next.at net) (rest next.at (add_of net r)))
    (refused_with (rule_of net r) at)

-- the records from an offset on. Each has at least its kind byte, so as many turns as bytes, and one more for their end, are enough
unfoldable pub lists_from : ℕ → List ℕ → ℕ → Network → Planned
lists_from zero s at net = refused_with out_of_order (length s)
lists_from (suc turns) s at net = turn s at net (lists_from turns s) (read_at s at)

unfoldable pub lists_of : List ℕ → Planned
lists_of s = lists_from (suc (length s)) s 0 zero_network
