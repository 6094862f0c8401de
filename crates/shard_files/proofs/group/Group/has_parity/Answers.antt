use Rattle.std.proofs.Common.{length, ◌∙◌, ap}
use Rattle.shard_files.proofs.Layouts.{own_long}
use Rattle.shard_files.proofs.Restores.{told_whole}
use Rattle.shard_files.proofs.group.Group.has_parity.Goals as goal

pub verify-requires : goal.verify-requires
verify-requires c =
    let group = c.args.self.now in
    own_long group.layout (length c.as_slice.result.now) (ap length c.as_slice.ensures.value ∙ group.whole)

pub returns-in-Ok-clause-answer : goal.returns-in-Ok-clause-answer
returns-in-Ok-clause-answer c =
    let group = c.args.self.now in
    told_whole group.layout group.shards.items c.as_slice.result.now c.as_slice.ensures.value c.in-Ok.ensures.told

pub returns-in-Err-clause-sure : goal.returns-in-Err-clause-sure
returns-in-Err-clause-sure c = λ matrix. c.in-Err.ensures.sure (c.args.self.now.layout.made.0 ∙ matrix)
