use Rattle.word_tables.proofs.ColumnLemmas.{columns_back, columns_bit}
use Rattle.word_tables.proofs.matrix.columns_are_transposed.Goals as goal

pub returns-clause-bits : goal.returns-clause-bits
returns-clause-bits c = columns_bit

pub returns-clause-back : goal.returns-clause-back
returns-clause-back c = columns_back
