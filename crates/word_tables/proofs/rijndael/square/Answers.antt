use Rattle.std.proofs.Common.{◌∙◌, arith}
use Rattle.word_tables.proofs.RijndaelTables.{squares_at}
use Rattle.word_tables.proofs.rijndael.square.Goals as goal

pub returns : goal.returns
returns c = c.entry.ensures ∙ squares_at c.args.a (omega arith)
