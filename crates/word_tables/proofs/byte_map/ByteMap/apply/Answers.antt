use Rattle.word_tables.specs.LinearMap.{byte_map_of}
use Rattle.word_tables.proofs.byte_map.ByteMap.apply.Goals as goal

pub returns : goal.returns
unfolding byte_map_of
returns c = c.sum_of_entries_128.ensures
