use Rattle.std.proofs.Common.{◌≡◌, ℕ, List, subst, arith}
use Rattle.shard_files.specs.Files.{IsAppended}
use Rattle.shard_files.specs.Groups.{numbered, shard_at}
use Rattle.shard_files.specs.Heads.{head_digest}
use Rattle.shard_files.specs.Pieces.{piece_bytes}
use Rattle.shard_files.specs.Stripes.{shard_total}
use Rattle.shard_files.proofs.Appended.{appends_all, appends_more, appends_none}
use Rattle.shard_files.proofs.writing.put_pieces.Goals as goal

pub loop-index-init : goal.loop-index-init
loop-index-init g c =
    λ before held.
    let origin = c.args.layout.now.origin in
    let bytes : ℕ → List ℕ = λ index. piece_bytes (head_digest (numbered origin index)) c.args.stripe (shard_at origin.size c.args.shards.now index) in
    (before, held, appends_none bytes before)

pub loop-index-preserved : goal.loop-index-preserved
loop-index-preserved g c =
    λ before held.
    let origin = c.args.layout.now.origin in
    let index = c.loop-index.index in
    let bytes : ℕ → List ℕ = λ n. piece_bytes (head_digest (numbered origin n)) c.args.stripe (shard_at origin.size c.args.shards.now n) in
    let old = c.loop-index.invariant before held in
    let put = c.in_ok-put_piece.ensures.put old.0 old.1 in
    let added =
    subst (λ (head : List ℕ). IsAppended index (piece_bytes head c.args.stripe (shard_at origin.size c.args.shards.now index)) old.0 put.0) c.head_of.ensures
    (subst (λ (shard : List ℕ). IsAppended index (piece_bytes c.head_of.result c.args.stripe shard) old.0 put.0) c.shard_of.ensures put.2) in
    (put.0, put.1, appends_more index bytes before old.0 put.0 old.2 added)

pub returns-clause-put : goal.returns-clause-put
returns-clause-put g c =
    λ before held.
    let origin = c.args.layout.now.origin in
    let bytes : ℕ → List ℕ = λ n. piece_bytes (head_digest (numbered origin n)) c.args.stripe (shard_at origin.size c.args.shards.now n) in
    let all = c.loop-index.invariant before held in
    let done : c.loop-index.index ≡ shard_total origin = omega (arith, c.loop-index-test.false, c.loop-index.auto.index-end, c.total-index-end.ensures) in
    (all.0, all.1, appends_all c.loop-index.index (shard_total origin) bytes before all.0 done all.2)
