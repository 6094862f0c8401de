use Rattle.std.proofs.Common.{length}
use Rattle.small_tables.proofs.small_field.SmallField.+weights_value.Given as goal

-- the coordinates that are left
abbrev pub decreases-weights_value : goal.decreases-weights_value
decreases-weights_value g l = length l.first.now
