use Rattle.std.proofs.Common.{◌≡◌, arith}
use Rattle.shard_files.specs.Groups.{numbered}
use Rattle.shard_files.specs.Heads.{head_file}
use Rattle.shard_files.specs.Stripes.{shard_total}
use Rattle.shard_files.proofs.Appended.{appends_all, appends_more, appends_none}
use Rattle.shard_files.proofs.writing.put_heads.Goals as goal

pub loop-index-init : goal.loop-index-init
loop-index-init g c = λ before held. (before, held, appends_none (λ index. head_file (numbered c.args.layout.now.origin index)) before)

pub loop-index-preserved : goal.loop-index-preserved
loop-index-preserved g c =
    λ before held.
    let old = c.loop-index.invariant before held in
    let put = c.in_ok-put_head.ensures.put old.0 old.1 in
    (put.0, put.1, appends_more c.loop-index.index (λ index. head_file (numbered c.args.layout.now.origin index)) before old.0 put.0 old.2 put.2)

pub returns-clause-put : goal.returns-clause-put
returns-clause-put g c =
    λ before held.
    let origin = c.args.layout.now.origin in
    let all = c.loop-index.invariant before held in
    let done : c.loop-index.index ≡ shard_total origin = omega (arith, c.loop-index-test.false, c.loop-index.auto.index-end, c.total-index-end.ensures) in
    (all.0, all.1, appends_all c.loop-index.index (shard_total origin) (λ index. head_file (numbered origin index)) before all.0 done all.2)
