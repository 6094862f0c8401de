use Rattle.std.proofs.Common.{[], get_or, refl}
use Rattle.shard_files.specs.Memory.{file_of, holdings_of}
use Rattle.shard_files.proofs.InMemory.{files_repaired}
use Rattle.shard_files.proofs.Returns.{shards_return_law}
use Rattle.shard_files.proofs.round_trip.repair_bytes.Goals as goal

pub returns-in-Ok-repair_shards-clause-repaired : goal.returns-in-Ok-repair_shards-clause-repaired
returns-in-Ok-repair_shards-clause-repaired c =
    λ content wholes are enough.
    let layout = c.args.layout in
    let files = holdings_of c.args.shards.now.files.items in
    let made = c.in-Ok.repaired in
    let put =
    c.in-Ok-repair_shards.ensures.restored files content wholes (file_of made.files.items) refl are.count_is
    (shards_return_law layout.origin content wholes files layout.possible layout.fits are enough.enough enough.seen) refl in
    files_repaired layout.origin wholes c.args.lost.now made.files.items c.repair_shards.new.files.files.items put.0 c.in-Ok.ensures.empty put.1 put.2

pub returns-in-Err-repair_shards-clause-granted : goal.returns-in-Err-repair_shards-clause-granted
returns-in-Err-repair_shards-clause-granted c =
    λ content wholes are enough.
    let layout = c.args.layout in
    let files = holdings_of c.args.shards.now.files.items in
    c.repair_fault.ensures
    (c.in-Err-repair_shards.ensures.granted files content (λ s. get_or wholes s []) refl
    (shards_return_law layout.origin content wholes files layout.possible layout.fits are enough.enough enough.seen))
