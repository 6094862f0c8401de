use Rattle.std.proofs.Common.{◌∙◌, arith}
use Rattle.word_tables.proofs.SquareTables.{squares_32}
use Rattle.word_tables.proofs.tables.by_bytes.square_32.Goals as goal

pub returns : goal.returns
returns c = c.sum_of_entries_32.ensures ∙ squares_32 c.args.x (omega arith)
