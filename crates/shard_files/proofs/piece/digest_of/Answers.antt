use Rattle.std.proofs.Common.{ℕ, List, [], ◌++◌, ◌∙◌, ap}
use Rattle.sha2.specs.Sha256.{sha256}
use Rattle.shard_files.specs.Pieces.{piece_digest}
use Rattle.shard_files.proofs.piece.digest_of.Goals as goal

pub returns : goal.returns
unfolding piece_digest
returns c =
    c.finalize.ensures _ (c.update-3.ensures _ (c.update-2.ensures _ (c.update.ensures [] c.new-hasher.ensures)))
    ∙ ap (λ (number : List ℕ). sha256 (c.args.head_digest.now ++ number ++ c.args.shard.now)) c.to_le_bytes.ensures
