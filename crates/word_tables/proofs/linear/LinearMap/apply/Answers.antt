use Rattle.word_tables.specs.LinearMap.{map_of}
use Rattle.word_tables.proofs.linear.LinearMap.apply.Goals as goal

pub returns : goal.returns
unfolding map_of
returns c = c.sum_of_values.ensures
