use Rattle.std.proofs.Common.{ℕ, Vec, sym, ◌∙◌, ap, arith}
use Rattle.std.specs.declared.alloc.Global.{Global}
use Rattle.shard_files.proofs.InMemory.{file_at, file_beyond}
use Rattle.shard_files.proofs.memory.MemoryShards.file.Goals as goal

pub returns-then-index-len : goal.returns-then-index-len
returns-then-index-len c =
    let files = c.args.self.now.files in
    c.as_slice.ensures.value ∙ ap (λ (v : Vec ℕ Global). v.items) c.index.ensures
    ∙ file_at files.items c.args.index c.index.result.now (omega (arith, c.if-index-len.true, c.len.ensures, files.ok.0))

pub returns-else-index-len : goal.returns-else-index-len
returns-else-index-len c =
    let files = c.args.self.now.files in
    sym (file_beyond files.items c.args.index (omega (arith, c.if-index-len.false, c.len.ensures, files.ok.0)))
