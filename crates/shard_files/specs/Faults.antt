-- Why shards are not written or read where nothing is wrong with what was asked for: memory, files and readers.
use Rattle.std.specs.Prelude.{◌≡◌, ⊤}
use Rattle.shard_files.specs.declared.error.JoinError.TheVariants as join_error
use Rattle.shard_files.specs.declared.error.RepairError.{RepairError}
use Rattle.shard_files.specs.declared.error.RepairError.TheVariants.{Join, Split}
use Rattle.shard_files.specs.declared.error.SplitError.{SplitError}
use Rattle.shard_files.specs.declared.error.SplitError.TheVariants.{CannotRead, CannotWrite, Changed, Memory}

-- memory was refused, or the file of a shard was not written
abbrev pub IsWriteFault : SplitError → Type 0
IsWriteFault Memory = ⊤
IsWriteFault Changed = ⊥
IsWriteFault (CannotRead _) = ⊥
IsWriteFault (CannotWrite _) = ⊤

-- memory was refused, the reader failed, or the file of a shard was not written
abbrev pub IsSplitFault : SplitError → Type 0
IsSplitFault Memory = ⊤
IsSplitFault Changed = ⊥
IsSplitFault (CannotRead _) = ⊤
IsSplitFault (CannotWrite _) = ⊤

-- memory was refused, or the file of a shard was not written again
abbrev pub IsRepairFault : RepairError → Type 0
IsRepairFault (Join error) = error ≡ join_error.Memory
IsRepairFault (Split error) = IsWriteFault error
