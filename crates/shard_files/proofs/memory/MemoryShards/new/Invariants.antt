use Rattle.std.proofs.Common.{◌≡◌, ℕ, [], length}
use Rattle.shard_files.specs.Memory.{file_of}
use Rattle.shard_files.proofs.memory.MemoryShards.new.Given as goal

abbrev pub invariant-loop : goal.invariant-loop
invariant-loop l = (length l.files.items ≡ l.counter) × ((index : ℕ) → file_of l.files.items index ≡ [])
