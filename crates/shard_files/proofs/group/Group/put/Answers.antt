use Rattle.std.proofs.Common.{◌≡◌, ℕ, ◌*◌, ◌+◌, ◌-◌, ◌<◌, true, false, List, length, get_or, set, refl, sym, ◌∙◌, ap, ap₂, subst, arith, rules}
use Rattle.std.proofs.lemmas.List.{take_at}
use borrow.Rule.Slice.PartMut.{put_mid}
use Rattle.shard_files.specs.Groups.{Puts}
use Rattle.shard_files.specs.Stripes.{shard_total}
use Rattle.shard_files.proofs.ShardPlaces.{shard_room}
use Rattle.shard_files.proofs.Groups.{length_put, put_there}
use Rattle.shard_files.proofs.group.Group.put.Goals as goal

pub returns-then-not-index-clause-put : goal.returns-then-not-index-clause-put
returns-then-not-index-clause-put c =
    let group = c.args.self.now in
    let index = c.args.index in
    let size = group.layout.origin.size in
    let total = shard_total group.layout.origin in
    let start = index * size in
    let gap = index * size + size - index * size in
    let count : length group.present.items ≡ total = group.flags in
    let within : index < total = omega (arith, c.if-index-len.true, c.len.ensures, count, group.present.ok.0) in
    let free : get_or group.present.items index false ≡ false = search rules in
    let room = shard_room index total size (length group.shards.items) within group.whole in
    let sized : length c.args.shard.now ≡ size = omega (arith, c.if-shard-size.true) in
    let long = length_put start gap group.shards.items c.args.shard.now (omega (arith, room)) (omega (arith, sized)) in
    let same = ap₂ (λ (all part : List ℕ). put_mid start gap all part) c.as_mut_slice.ensures.value c.copy_from_slice.ensures.after in
    subst (λ (l : List ℕ). Puts total size index c.args.shard.now group.shards.items group.present.items l (set group.present.items index true))
    (sym (take_at (put_mid start gap c.as_mut_slice.result.now c.copy_from_slice.new.self) _ group.shards.len
    (ap length same ∙ long ∙ sym group.shards.ok.0) ∙ same))
    (put_there total size index c.args.shard.now group.shards.items group.present.items start gap refl (omega arith) within
    (omega (arith, count)) group.whole sized free)
