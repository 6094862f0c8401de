use Rattle.std.proofs.Common.{ℕ, ◌+◌, List, [], ◌∷◌, length, Vec, ◌∙◌, ap}
use Rattle.std.specs.declared.alloc.Global.{Global}
use Rattle.std.proofs.lemmas.List.{length-append}
use Rattle.shard_files.specs.Memory.{file_of}
use Rattle.shard_files.proofs.InMemory.{file_push}
use Rattle.shard_files.proofs.memory.MemoryShards.new.Goals as goal

pub loop-preserved : goal.loop-preserved
loop-preserved c =
    let old = c.loop.files.items in
    let items = c.in_ok-push.ensures.items in (
      ap length items ∙ length-append old (c.new.result ∷ []) ∙ ap (λ (n : ℕ). n + 1) c.loop.invariant.0,
      λ index. ap (λ (l : List (Vec ℕ Global)). file_of l index) items ∙ file_push old c.new.result c.new.ensures.items c.loop.invariant.1 index,
    )
