use Rattle.std.proofs.Common.{◌∙◌, ap, arith}
use Rattle.field_base.specs.Tower.{tower_mul}
use Rattle.word_tables.proofs.ByteTables.{inverses_at}
use Rattle.word_tables.proofs.tables.invert_8.Goals as goal

pub returns-clause-inverse : goal.returns-clause-inverse
returns-clause-inverse c nonzero = ap (tower_mul 3 c.args.a) c.entry.ensures ∙ inverses_at c.args.a (omega arith) nonzero
