use Rattle.std.proofs.Common.{◌≡◌, ℕ, List, inl, inr, refl, sym, ◌∙◌, ap, subst}
use Rattle.sha2.specs.Sha256.{sha256}
use Rattle.shard_files.specs.Files.{AreShards}
use Rattle.shard_files.specs.Memory.{file_of}
use Rattle.shard_files.proofs.InMemory.{files_are, whole_read}
use Rattle.shard_files.proofs.round_trip.split_bytes.Goals as goal

pub returns-in-Ok-write_shards-clause-split : goal.returns-in-Ok-write_shards-clause-split
returns-in-Ok-write_shards-clause-split c =
    let origin = c.args.layout.origin in
    let content = c.args.content.now in
    let wrote = c.in-Ok-write_shards.ensures.written in
    let shards = c.in-Ok.shards in
    let same : wrote.0 ≡ content = whole_read content wrote.0 c.write_shards.new.reader.now wrote.3 (wrote.2.length_is ∙ sym c.if-content-layout.false) in
    let files = wrote.4 (file_of shards.files.items) refl in (
      wrote.1,
      subst (λ (l : List ℕ). AreShards origin l wrote.1) same wrote.2,
      files_are origin wrote.1 shards.files.items c.write_shards.new.files.files.items files.0 c.in-Ok.ensures.empty files.1 files.2,
    )

pub returns-in-Err-Changed-clause-refused : goal.returns-in-Err-Changed-clause-refused
returns-in-Err-Changed-clause-refused c =
    let origin = c.args.layout.origin in
    let content = c.args.content.now in
    elim (rw c.in-Err-Changed.field-0-is at c.in-Err-Changed.ensures.refused) [
      | inl fault ↦ absurd fault
      | inr other ↦
          let read = other.1 in
          let same : read.0 ≡ content = whole_read content read.0 c.write_shards.new.reader.now read.1 (read.2 ∙ sym c.if-content-layout.false) in
          inr (refl, inr (λ is. read.3 (ap sha256 same ∙ is)))
    ]
