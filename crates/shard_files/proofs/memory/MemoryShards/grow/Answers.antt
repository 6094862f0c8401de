use Rattle.std.proofs.Common.{ℕ, List, ◌++◌, Vec, ◌<◌, length, ◌∙◌, ap, arith}
use Rattle.std.specs.declared.alloc.Global.{Global}
use Rattle.shard_files.proofs.InMemory.{file_at, file_grown}
use Rattle.shard_files.proofs.memory.MemoryShards.grow.Goals as goal

pub returns : goal.returns
returns c =
    let files = c.args.self.now.files in
    let bytes = c.args.bytes.now in
    let below : c.args.index < length files.items = omega (arith, c.if-index-len.false, c.len.ensures, files.ok.0) in
    file_grown files.items c.args.index c.extend_from_slice.new.self bytes below
    (c.in_ok-extend_from_slice.ensures.items
    ∙ ap (λ (l : List ℕ). l ++ bytes)
    (ap (λ (v : Vec ℕ Global). v.items) c.index_mut.ensures.value ∙ file_at files.items c.args.index c.index_mut.result.now below))
