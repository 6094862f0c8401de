use Rattle.std.proofs.Common.{ℕ, List, refl, sym, subst}
use Rattle.std.proofs.lemmas.Result.{on_ok_weaker}
use Rattle.shard_files.specs.Files.{IsAppended}
use Rattle.shard_files.specs.Memory.{file_of}
use Rattle.shard_files.proofs.memory.MemoryShardsShardFiles.append.Goals as goal

pub returns : goal.returns
returns c =
    λ files held.
    let new = file_of c.grow.new.self.files.items in
    on_ok_weaker c.grow.result
    (λ grown. (new, refl, subst (λ (f : ℕ → List ℕ). IsAppended c.args.index c.args.bytes.now f new) (sym held) grown)) c.grow.ensures
