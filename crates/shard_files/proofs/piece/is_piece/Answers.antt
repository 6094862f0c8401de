use Rattle.std.proofs.Common.{◌≡◌, length, take, drop, IsTrue, sym, ◌∙◌, ap, arith, rules}
use Rattle.std.proofs.lemmas.Bool.{false≢true}
use Rattle.std.proofs.lemmas.List.{take_rest}
use Rattle.shard_files.specs.Pieces.{piece_digest}
use Rattle.shard_files.proofs.Pieces.{is_piece_of, piece_front, piece_size}
use Rattle.shard_files.proofs.piece.is_piece.Goals as goal

pub returns-then-piece-lt-DIGEST : goal.returns-then-piece-lt-DIGEST
returns-then-piece-lt-DIGEST c =
    let piece = c.args.piece.now in
    let head = c.args.head_digest.now in (
      λ never. absurd (false≢true never),
      λ same. absurd (omega (arith, c.if-piece-lt-DIGEST.true, ap length same, piece_size head c.args.stripe (drop 32 piece))),
    )

pub returns : goal.returns
returns c =
    let piece = c.args.piece.now in
    let head = c.args.head_digest.now in
    let digest : c.digest_of-digest.result ≡ piece_digest head c.args.stripe (drop 32 piece) =
    c.digest_of-digest.ensures ∙ ap (piece_digest head c.args.stripe) (take_rest piece 32) in
    let both : (IsTrue c.eq.result → take 32 piece ≡ c.digest_of-digest.result) × (take 32 piece ≡ c.digest_of-digest.result → IsTrue c.eq.result) =
    search rules in (
      λ is. is_piece_of head c.args.stripe piece (both.0 is ∙ digest),
      λ same. both.1 (ap (take 32) same ∙ piece_front head c.args.stripe (drop 32 piece) ∙ sym digest),
    )
