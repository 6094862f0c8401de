use Rattle.std.proofs.Common.{◌∙◌, arith}
use Rattle.word_tables.proofs.SquareTables.{squares_64}
use Rattle.word_tables.proofs.tables.by_bytes.square_64.Goals as goal

pub returns : goal.returns
returns c = c.sum_of_entries_64.ensures ∙ squares_64 c.args.x (omega arith)
