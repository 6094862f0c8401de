use Rattle.std.proofs.Common.{◌∙◌, arith}
use Rattle.word_tables.proofs.ByteTables.{root_products_at}
use Rattle.word_tables.proofs.tables.multiply_by_root_8.Goals as goal

pub returns : goal.returns
returns c = c.entry.ensures ∙ root_products_at c.args.a (omega arith)
