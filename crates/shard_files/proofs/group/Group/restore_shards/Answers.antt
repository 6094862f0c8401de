use Rattle.std.proofs.Common.{◌≡◌, ◌+◌, List, ℕ, length, refl, sym, ◌∙◌, ap, subst}
use Rattle.std.proofs.lemmas.List.{take_at}
use Rattle.shard_files.specs.Groups.{HaveSameShards}
use Rattle.shard_files.proofs.Layouts.{of_code, own_long}
use Rattle.shard_files.proofs.Restores.{kept_shards, restored_whole}
use Rattle.shard_files.proofs.group.Group.restore_shards.Goals as goal

pub restore-requires-clause-whole : goal.restore-requires-clause-whole
restore-requires-clause-whole c =
    let group = c.args.self.now in
    own_long group.layout (length c.as_mut_slice-shards.result.now) (ap length c.as_mut_slice-shards.ensures.value ∙ group.whole)

pub restore-requires-clause-flags : goal.restore-requires-clause-flags
restore-requires-clause-flags c =
    let group = c.args.self.now in
    of_code group.layout (λ n k m size. length c.as_slice.result.now ≡ k + m) (ap length c.as_slice.ensures.value ∙ group.flags)

pub returns-in-Ok-clause-restored : goal.returns-in-Ok-clause-restored
returns-in-Ok-clause-restored c =
    λ content whole has ok.
    let group = c.args.self.now in
    let new = c.restore.new.shards in
    let long = c.restore.ensures.long ∙ ap length c.as_mut_slice-shards.ensures.value ∙ sym group.shards.ok.0 in
    take_at new _ group.shards.len long
    ∙ restored_whole group.layout content whole group.shards.items group.present.items has
    c.as_mut_slice-shards.result.now new c.as_slice.result.now c.as_mut_slice-shards.ensures.value c.as_slice.ensures.value
    (λ all. c.in-Ok.ensures.restored all refl)

pub returns-in-Ok-clause-stays : goal.returns-in-Ok-clause-stays
returns-in-Ok-clause-stays c =
    λ ok.
    let group = c.args.self.now in
    let new = c.restore.new.shards in
    let long = c.restore.ensures.long ∙ ap length c.as_mut_slice-shards.ensures.value ∙ sym group.shards.ok.0 in
    subst (λ (l : List ℕ). HaveSameShards group.layout.origin group.present.items l group.shards.items) (sym (take_at new _ group.shards.len long))
    (kept_shards group.layout group.shards.items group.present.items c.as_mut_slice-shards.result.now new
    c.as_slice.result.now c.as_mut_slice-shards.ensures.value c.as_slice.ensures.value group.whole c.restore.ensures.long (c.in-Ok.ensures.kept refl))

pub returns-in-Err-clause-same : goal.returns-in-Err-clause-same
returns-in-Err-clause-same c =
    let group = c.args.self.now in
    let new = c.restore.new.shards in
    let long = c.restore.ensures.long ∙ ap length c.as_mut_slice-shards.ensures.value ∙ sym group.shards.ok.0 in
    take_at new _ group.shards.len long ∙ c.in-Err.ensures.same ∙ c.as_mut_slice-shards.ensures.value

pub returns-in-Err-clause-sure : goal.returns-in-Err-clause-sure
returns-in-Err-clause-sure c = λ matrix. c.in-Err.ensures.sure (c.args.self.now.layout.made.0 ∙ matrix)
