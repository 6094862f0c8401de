use Rattle.std.proofs.Common.{◌≡◌, ℕ, length, subst, arith}
use Rattle.shard_files.specs.Files.{AppendsToLost}
use Rattle.shard_files.specs.Groups.{numbered}
use Rattle.shard_files.specs.Heads.{head_file}
use Rattle.shard_files.proofs.Lost.{lost_none}
use Rattle.shard_files.proofs.repair.put_lost_heads.Goals as goal

pub loop-index-init : goal.loop-index-init
loop-index-init g c = λ before held. (before, held, lost_none c.args.lost.now (λ index. head_file (numbered c.args.origin.now index)) before)

pub returns-clause-put : goal.returns-clause-put
returns-clause-put g c =
    λ before held.
    let all = c.loop-index.invariant before held in
    let done : c.loop-index.index ≡ length c.args.lost.now = omega (arith, c.loop-index-test.false, c.loop-index.auto.index-end) in
    (all.0, all.1, subst (λ (n : ℕ). AppendsToLost n c.args.lost.now (λ index. head_file (numbered c.args.origin.now index)) before all.0) done all.2)
