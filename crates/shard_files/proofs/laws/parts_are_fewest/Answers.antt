use Rattle.std.proofs.Common.{◌+◌, ◌-◌, ◌/◌}
use Rattle.std.proofs.Math.Nat.{le-max_left}
use Rattle.shard_files.proofs.Sizes.{part_enough, part_least}
use Rattle.shard_files.proofs.laws.parts_are_fewest.Goals as goal

pub returns-clause-enough : goal.returns-clause-enough
returns-clause-enough c = part_enough

pub returns-clause-some : goal.returns-clause-some
returns-clause-some c = λ bytes each. le-max_left 1 ((bytes + (each - 1)) / each)

pub returns-clause-least : goal.returns-clause-least
returns-clause-least c = part_least
