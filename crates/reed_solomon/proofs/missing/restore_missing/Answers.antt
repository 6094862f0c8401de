use Rattle.std.proofs.Common.{◌-◌, ◌≤◌, length, slice_index, arith}
use Rattle.reed_solomon.proofs.GroupWriting.{missing_kept, missing_written}
use Rattle.reed_solomon.proofs.MissingTables.{missing_few, sample_within, tables_agree}
use Rattle.reed_solomon.proofs.PreparedTables.{tables_fewer}
use Rattle.reed_solomon.proofs.RestoredShards.{all_restored}
use Rattle.reed_solomon.proofs.missing.restore_missing.Goals as goal

pub restore_prepared-requires-clause-listed : goal.restore_prepared-requires-clause-listed
restore_prepared-requires-clause-listed c =
    let k = c.args.k in
    let total = length c.args.present.now in
    let targets = c.missing_places-missing.result.0 in
    let missing = c.missing_places-missing.result.1 in
    let most : k ≤ total = sample_within k total c.args.present.now c.args.places.now k c.requires.chosen in
    let few = missing_few k (total - k) c.args.until missing k c.args.present.now c.args.places.now targets (omega (arith, most)) c.requires.inside
    (omega arith) c.requires.chosen c.missing_places-missing.ensures.missing in
    omega (arith, tables_fewer k missing (total - k) few, c.requires.listed)

pub restore_prepared-requires-clause-sample : goal.restore_prepared-requires-clause-sample
restore_prepared-requires-clause-sample c =
    let most = sample_within c.args.k (length c.args.present.now) c.args.present.now c.args.places.now c.args.k c.requires.chosen in
    omega (arith, most, c.requires.fit)

pub returns : goal.returns
returns c =
    let k = c.args.k in
    let present = c.args.present.now in
    let total = length present in
    let size = c.args.size in
    let places = c.args.places.now in
    let targets = c.missing_places-missing.result.0 in
    let missing = c.missing_places-missing.result.1 in
    let list = c.missing_places-missing.ensures.missing in
    record {
      restored = λ all.
          all_restored total size k c.args.until present places c.args.shards.now _ c.requires.fit c.requires.chosen c.bytes_fit.ensures
          (missing_written total size k c.args.until missing (slice_index places) present targets c.args.shards.now _ list
          (c.restore_prepared.ensures.restored
          (tables_agree k total c.args.until missing present places targets c.args.tables.now c.requires.inside c.requires.chosen list all)));
      keeps = λ i column below inside why.
          missing_kept size c.args.until missing present targets c.args.shards.now _ list c.restore_prepared.ensures.others i column inside why;
      long = c.restore_prepared.ensures.long;
    }
