use Rattle.field_base.proofs.LinearMapLemmas.{the_linear_map}
use Rattle.word_tables.proofs.linear.images_give_linear_map.Goals as goal

pub returns : goal.returns
returns c = the_linear_map
