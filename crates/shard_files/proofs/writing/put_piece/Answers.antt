use Rattle.std.proofs.Common.{ℕ, List, subst}
use Rattle.shard_files.specs.Files.{IsAppended}
use Rattle.shard_files.specs.Pieces.{piece_bytes, piece_digest}
use Rattle.shard_files.proofs.Appended.{appended_twice}
use Rattle.shard_files.proofs.writing.put_piece.Goals as goal

pub returns-clause-put : goal.returns-clause-put
unfolding piece_bytes
returns-clause-put g c =
    λ before held.
    let index = c.args.index in
    let shard = c.args.shard.now in
    let one = c.in_ok-append.ensures.put before held in
    let two = c.in_ok-append-2.ensures.put one.0 one.1 in
    let digest = subst (λ (d : List ℕ). IsAppended index d before one.0) c.digest_of.ensures one.2 in
    (two.0, two.1, appended_twice index (piece_digest c.args.digest.now c.args.stripe shard) shard before one.0 two.0 digest two.2)
