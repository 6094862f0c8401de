-- The laws of linear maps, by induction on the bits.
use Rattle.word_tables.proofs.LinearMaps.{agree_at_powers, columns_give_the_map}
use Rattle.word_tables.proofs.columns.columns_give_maps.Goals as goal

pub returns-clause-columns : goal.returns-clause-columns
returns-clause-columns c = columns_give_the_map

pub returns-clause-unique : goal.returns-clause-unique
returns-clause-unique c = agree_at_powers
