use Rattle.word_tables.specs.LinearMap.{byte_map_of}
use Rattle.word_tables.proofs.byte_map.ByteMap.new.Goals as goal

pub returns : goal.returns
unfolding byte_map_of
returns c x = c.table_of.ensures x
