use Rattle.std.proofs.Common.{◌∙◌, arith}
use Rattle.word_tables.proofs.ByteTables.{squares_at}
use Rattle.word_tables.proofs.tables.square_8.Goals as goal

pub returns : goal.returns
returns c = c.entry.ensures ∙ squares_at c.args.a (omega arith)
