-- `word_of`: `same` tells whether the bytes are the word's.
use Rattle.laws.proofs.Choice.{true_not_false}
use Rattle.commands.proofs.Words.{is_layout, is_unknown}
use Rattle.commands.proofs.word_of.Goals as goal

pub returns-then-same : goal.returns-then-same
returns-then-same c = is_layout c.args.bytes.now (c.same.ensures.0 c.if-same.true)

pub returns-else-same : goal.returns-else-same
returns-else-same c = is_unknown c.args.bytes.now (λ e. true_not_false _ (c.same.ensures.1 e) c.if-same.false)
