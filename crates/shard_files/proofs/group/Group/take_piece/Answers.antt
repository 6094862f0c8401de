use Rattle.std.proofs.Common.{◌≡◌, ℕ, List, drop, sym, ◌∙◌, ap, subst}
use Rattle.std.proofs.lemmas.Bool.{true≢false}
use Rattle.shard_files.specs.Groups.{Puts}
use Rattle.shard_files.specs.Heads.{head_digest}
use Rattle.shard_files.specs.Pieces.{piece_bytes}
use Rattle.shard_files.specs.Stripes.{shard_total}
use Rattle.shard_files.proofs.Groups.{AreOfHead, takes_nothing, takes_piece}
use Rattle.shard_files.proofs.Pieces.{piece_rest}
use Rattle.shard_files.proofs.group.Group.take_piece.Goals as goal

pub returns-then-is_piece-clause-taken : goal.returns-then-is_piece-clause-taken
returns-then-is_piece-clause-taken c =
    let group = c.args.self.now in
    let now = c.put.new.self in
    let head = c.args.head.now in
    let piece = c.args.piece.now in
    let is : piece ≡ piece_bytes (head_digest head) c.args.stripe (drop 32 piece) =
    c.is_piece.ensures.0 c.if-is_piece.true ∙ ap (λ (d : List ℕ). piece_bytes d c.args.stripe (drop 32 piece)) c.requires.digest in
    takes_piece group.layout.origin head c.args.stripe piece (drop 32 piece) group.shards.items now.shards.items group.present.items now.present.items is
    (subst (λ (shard : List ℕ). Puts (shard_total group.layout.origin) group.layout.origin.size head.index shard group.shards.items group.present.items now.shards.items now.present.items)
    c.rest_of.ensures c.put.ensures.put)

pub returns-else-is_piece-clause-taken : goal.returns-else-is_piece-clause-taken
returns-else-is_piece-clause-taken c =
    let group = c.args.self.now in
    let head = c.args.head.now in
    let piece = c.args.piece.now in
    takes_nothing group.layout.origin (AreOfHead head c.args.stripe piece) group.shards.items group.present.items
    (λ index shard inside given.
    let shard_is : shard ≡ drop 32 piece = sym (ap (drop 32) given.1 ∙ piece_rest (head_digest head) c.args.stripe shard) in
    let is : piece ≡ piece_bytes c.args.digest.now c.args.stripe (drop 32 piece) =
    given.1 ∙ ap (piece_bytes (head_digest head) c.args.stripe) shard_is
    ∙ ap (λ (d : List ℕ). piece_bytes d c.args.stripe (drop 32 piece)) (sym c.requires.digest) in
    true≢false (sym (c.is_piece.ensures.1 is) ∙ c.if-is_piece.false))
