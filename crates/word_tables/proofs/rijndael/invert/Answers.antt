use Rattle.std.proofs.Common.{◌∙◌, ap, arith}
use Rattle.field_base.specs.Remainder.{aes_modulus, mul_mod}
use Rattle.word_tables.proofs.RijndaelTables.{inverses_at}
use Rattle.word_tables.proofs.rijndael.invert.Goals as goal

pub returns-clause-inverse : goal.returns-clause-inverse
returns-clause-inverse c nonzero =
    ap (mul_mod 8 aes_modulus c.args.a) c.entry.ensures ∙ inverses_at c.args.a (omega arith) nonzero
