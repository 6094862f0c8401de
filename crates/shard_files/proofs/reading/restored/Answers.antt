use Rattle.std.proofs.Common.{inl, inr, refl, arith}
use Rattle.std.proofs.lemmas.Result.{err_from_is_err_and}
use Rattle.shard_files.proofs.Groups.{group_count, group_enough}
use Rattle.shard_files.proofs.reading.restored.Goals as goal

pub returns-in_err-restore-clause-granted : goal.returns-in_err-restore-clause-granted
returns-in_err-restore-clause-granted g c =
    λ files whole held gives.
    let group = c.in_ok-group.group in
    let error = err_from_is_err_and c.from_residual-in_err-restore.result c.from_residual-in_err-restore.ensures.1 in
    let enough = group_count c.args.layout.origin group.layout.origin c.in_ok-group.ensures.of files c.args.stripe group.shards.items group.present.items
    (c.in_ok-group.ensures.gathered files held) group.whole group.flags whole gives in
    rw (error.1, error.2) (elim c.in_err-restore.ensures.refused [
      | inl few ↦ absurd (omega (arith, few.1, enough))
      | inr memory ↦ memory.0
    ])

pub returns-clause-restored : goal.returns-clause-restored
returns-clause-restored g c =
    λ files content whole held gives.
    let group = c.in_ok-group.group in
    c.in_ok-restore.ensures.restored content whole
    (group_enough c.args.layout.origin group.layout.origin c.in_ok-group.ensures.of files c.args.stripe group.shards.items group.present.items
    (c.in_ok-group.ensures.gathered files held) group.whole group.flags content whole gives) refl
