use Rattle.std.proofs.Common.{arith}
use Rattle.transcripts.proofs.CapPaths.{cap-room}
use Rattle.transcripts.proofs.merkle_paths.power_of_two.Goals as goal

pub returns-clause-power : goal.returns-clause-power
returns-clause-power c = let room = cap-room c.args.levels 40 c.requires (omega arith) in omega (arith, room.0)

pub returns-clause-few : goal.returns-clause-few
returns-clause-few c = let room = cap-room c.args.levels 40 c.requires (omega arith) in omega (arith, room.0, room.1)
