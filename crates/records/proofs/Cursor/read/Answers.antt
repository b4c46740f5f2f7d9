-- `Cursor::read`: each pattern tells the kind ahead and how many bytes are behind it, and a lemma of `Ahead` says what `read_at` finds then.
use Rattle.std.proofs.Common.{arith}
use Rattle.records.proofs.Ahead.{none_ahead, unknown_ahead, short_ahead, end_ahead, rounds_ahead, node_ahead, link_ahead}
use Rattle.records.proofs.Bodies.{rounds_body, node_body, link_body}
use Rattle.records.proofs.Cursor.read.Goals as goal

pub returns-in_default : goal.returns-in_default
returns-in_default c = none_ahead c.args.bytes.now c.args.self.at c.min.result c.min.ensures (omega arith)

pub returns-in-0-default : goal.returns-in-0-default
returns-in-0-default c = end_ahead c.args.bytes.now c.args.self.at c.min.result c.min.ensures (omega arith) (omega arith)

pub returns-in-1-len2-up : goal.returns-in-1-len2-up
returns-in-1-len2-up c = rounds_ahead c.args.bytes.now c.args.self.at c.min.result c.min.ensures (omega arith) (omega arith) (omega arith) c.from_be_bytes-rounds.result c.from_be_bytes-rounds.ensures

pub returns-in-2-len4-up : goal.returns-in-2-len4-up
returns-in-2-len4-up c = node_ahead c.args.bytes.now c.args.self.at c.min.result c.min.ensures (omega arith) (omega arith) (omega arith) c.from_be_bytes-start.result c.from_be_bytes-start.ensures

pub returns-in-3-len3-up : goal.returns-in-3-len3-up
returns-in-3-len3-up c = link_ahead c.args.bytes.now c.args.self.at c.min.result c.min.ensures (omega arith) (omega arith) (omega arith)

pub returns-in_default-2 : goal.returns-in_default-2
returns-in_default-2 c = unknown_ahead c.args.bytes.now c.args.self.at c.min.result c.min.ensures (omega arith) (omega arith)

pub returns-in-0-to-3-default : goal.returns-in-0-to-3-default
returns-in-0-to-3-default c = short_ahead c.args.bytes.now c.args.self.at c.min.result c.min.ensures (omega arith) (omega arith) 2 (rounds_body _ (omega arith)) (omega arith)

pub returns-in-0-to-3-default-2 : goal.returns-in-0-to-3-default-2
returns-in-0-to-3-default-2 c = short_ahead c.args.bytes.now c.args.self.at c.min.result c.min.ensures (omega arith) (omega arith) 4 (node_body _ (omega arith)) (omega arith)

pub returns-in-0-to-3-default-3 : goal.returns-in-0-to-3-default-3
returns-in-0-to-3-default-3 c = short_ahead c.args.bytes.now c.args.self.at c.min.result c.min.ensures (omega arith) (omega arith) 3 (link_body _ (λ q. omega arith) (λ q. omega arith) (λ q. omega arith)) (omega arith)
