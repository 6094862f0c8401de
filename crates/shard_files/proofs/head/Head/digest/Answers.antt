use Rattle.std.proofs.Common.{ℕ, List, [], ◌++◌, ◌∙◌, ap, ap₂}
use Rattle.sha2.specs.Sha256.{sha256}
use Rattle.std.specs.Int.{w64, to_le_bytes}
use Rattle.shard_files.specs.Heads.{head_begin, head_digest, head_fields}
use Rattle.shard_files.proofs.head.Head.digest.Goals as goal

pub returns : goal.returns
unfolding head_begin head_digest
returns c =
    let head = c.args.self.now in
    c.finalize.ensures _ (c.update-4.ensures _ (c.update-3.ensures _ (c.update-2.ensures _ (c.update.ensures [] c.new-hasher.ensures))))
    ∙ ap₂ (λ (fields long : List ℕ). sha256 (fields ++ long ++ c.to_le_bytes-2.result ++ head.origin.identity)) c.fields.ensures c.to_le_bytes.ensures
    ∙ ap (λ (size : List ℕ). sha256 (head_fields head.origin head.index ++ to_le_bytes w64 head.origin.length ++ size ++ head.origin.identity)) c.to_le_bytes-2.ensures
