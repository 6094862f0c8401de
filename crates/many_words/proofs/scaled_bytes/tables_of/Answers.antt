use Rattle.field_base.specs.LinearMaps.{linear_image}
use Rattle.field_base.proofs.LinearMapLemmas.{the_linear_map}
use Rattle.many_words.proofs.ByteSums.{entries_sum}
use Rattle.many_words.proofs.scaled_bytes.tables_of.Goals as goal

pub returns : goal.returns
returns c =
    entries_sum (linear_image c.args.images.now) c.map_bytes.new.bytes c.map_bytes.ensures (the_linear_map c.args.images.now).of_sum
