-- The rules of the tables of powers and of logarithms.
use Rattle.word_tables.proofs.ByteTables.{entries_are_powers, entries_are_logarithms}
use Rattle.word_tables.proofs.tables.tables_are_powers.Goals as goal

pub returns-clause-powers : goal.returns-clause-powers
returns-clause-powers c = entries_are_powers

pub returns-clause-logarithms : goal.returns-clause-logarithms
returns-clause-logarithms c = entries_are_logarithms
