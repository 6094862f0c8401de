use Rattle.std.proofs.Common.{length, slice_index}
use Rattle.reed_solomon.proofs.GroupWriting.{missing_written}
use Rattle.reed_solomon.proofs.RestoredShards.{all_restored}
use Rattle.reed_solomon.proofs.rows.restore.Goals as goal

pub returns-clause-restored : goal.returns-clause-restored
returns-clause-restored c =
    let total = length c.args.present.now in
    let places = c.args.sample.now.places in
    all_restored total c.args.size c.args.sample.now.count c.args.until c.args.present.now places c.args.shards.now _ c.requires.fit c.requires.chosen
    c.bytes_fit.ensures
    (missing_written total c.args.size c.args.sample.now.count c.args.until _ (slice_index places) c.args.present.now _ c.args.shards.now _
    c.missing_places-count.ensures.missing c.restore_shards.ensures)
