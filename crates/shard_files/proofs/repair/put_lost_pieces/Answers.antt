use Rattle.std.proofs.Common.{◌≡◌, ℕ, List, length, subst, arith}
use Rattle.shard_files.specs.Files.{AppendsToLost}
use Rattle.shard_files.specs.Groups.{numbered, shard_at}
use Rattle.shard_files.specs.Heads.{head_digest}
use Rattle.shard_files.specs.Pieces.{piece_bytes}
use Rattle.shard_files.proofs.Lost.{lost_none}
use Rattle.shard_files.proofs.repair.put_lost_pieces.Goals as goal

pub loop-index-init : goal.loop-index-init
loop-index-init g c =
    λ before held.
    let group = c.args.group.now in
    let bytes : ℕ → List ℕ = λ index. piece_bytes (head_digest (numbered group.layout.origin index)) c.args.stripe (shard_at group.layout.origin.size group.shards.items index) in
    (before, held, lost_none c.args.lost.now bytes before)

pub returns-clause-put : goal.returns-clause-put
returns-clause-put g c =
    λ before held.
    let group = c.args.group.now in
    let bytes : ℕ → List ℕ = λ index. piece_bytes (head_digest (numbered group.layout.origin index)) c.args.stripe (shard_at group.layout.origin.size group.shards.items index) in
    let all = c.loop-index.invariant before held in
    let done : c.loop-index.index ≡ length c.args.lost.now = omega (arith, c.loop-index-test.false, c.loop-index.auto.index-end) in
    (all.0, all.1, subst (λ (n : ℕ). AppendsToLost n c.args.lost.now bytes before all.0) done all.2)
