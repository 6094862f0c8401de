use Rattle.std.proofs.Common.{◌∙◌, arith}
use Rattle.word_tables.proofs.SquareTables.{squares_16}
use Rattle.word_tables.proofs.tables.by_bytes.square_16.Goals as goal

pub returns : goal.returns
returns c = c.sum_of_entries_16.ensures ∙ squares_16 c.args.x (omega arith)
