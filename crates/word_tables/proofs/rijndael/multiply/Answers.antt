use Rattle.std.proofs.Common.{◌∙◌, arith}
use Rattle.word_tables.proofs.RijndaelTables.{products}
use Rattle.word_tables.proofs.rijndael.multiply.Goals as goal

pub power_of_sum-requires : goal.power_of_sum-requires
power_of_sum-requires c = products.fits

pub returns : goal.returns
returns c = c.power_of_sum.ensures ∙ products.product c.args.a c.args.b (omega arith) (omega arith)
