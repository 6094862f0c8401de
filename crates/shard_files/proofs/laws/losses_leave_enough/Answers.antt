use Rattle.shard_files.proofs.InMemory.{losses_leave_enough_law}
use Rattle.shard_files.proofs.laws.losses_leave_enough.Goals as goal

pub returns : goal.returns
returns c = losses_leave_enough_law
