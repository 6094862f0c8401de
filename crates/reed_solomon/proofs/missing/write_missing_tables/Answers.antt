use Rattle.std.proofs.Common.{◌-◌, ◌*◌, ◌/◌, ◌%◌, ◌<◌, ◌≤◌, ℕ, length, drop, slice_index, sym, ◌∙◌, subst, arith}
use Rattle.std.proofs.lemmas.List.{get_or-take, length-take-le}
use Rattle.field_base.specs.Interpolation.{lagrange}
use Rattle.reed_solomon.specs.ByteFields.{byte_times}
use Rattle.reed_solomon.specs.declared.byte_field.ByteField.TheVariants.{Qr}
use Rattle.reed_solomon.specs.Parity.{tables_length}
use Rattle.reed_solomon.specs.Shards.{IsPresent}
use Rattle.reed_solomon.specs.Tables.{HasRow}
use Rattle.reed_solomon.proofs.MissingTables.{missing_few, sample_within}
use Rattle.reed_solomon.proofs.PreparedTables.{tables_fewer}
use Rattle.reed_solomon.proofs.missing.write_missing_tables.Goals as goal

pub write_tables-requires-clause-room : goal.write_tables-requires-clause-room
write_tables-requires-clause-room c =
    let k = c.args.sample.now.count in
    let total = length c.args.present.now in
    let targets = c.missing_places-missing.result.0 in
    let missing = c.missing_places-missing.result.1 in
    let listed = length-take-le missing targets (omega (arith, c.missing_places-missing.ensures.few, c.requires.fit)) in
    let most : k ≤ total = sample_within k total c.args.present.now c.args.sample.now.places k c.requires.chosen in
    let few = missing_few k (total - k) total missing k c.args.present.now c.args.sample.now.places targets (omega (arith, most)) (omega arith)
    (omega arith) c.requires.chosen c.missing_places-missing.ensures.missing in
    subst (λ (l : ℕ). tables_length k l ≤ length c.args.tables.now) (sym listed)
    (omega (arith, tables_fewer k missing (total - k) few, c.requires.room))

pub write_tables-requires-clause-apart : goal.write_tables-requires-clause-apart
write_tables-requires-clause-apart c = λ j t below within same.
    let targets = c.missing_places-missing.result.0 in
    let missing = c.missing_places-missing.result.1 in
    let listed = length-take-le missing targets (omega (arith, c.missing_places-missing.ensures.few, c.requires.fit)) in
    let inside : t < missing = omega (arith, within, listed) in
    c.missing_places-missing.ensures.missing.absent t inside
    (subst (IsPresent c.args.present.now) (same ∙ get_or-take missing targets t 0 inside) (c.requires.chosen.is_present j below))

pub returns-clause-prepared : goal.returns-clause-prepared
returns-clause-prepared c =
    let k = c.args.sample.now.count in
    let targets = c.missing_places-missing.result.0 in
    let missing = c.missing_places-missing.result.1 in
    let listed = length-take-le missing targets (omega (arith, c.missing_places-missing.ensures.few, c.requires.fit)) in
    record {
      places = c.args.sample.now.places;
      targets = targets;
      missing = missing;
      sample = c.requires.chosen;
      lost = c.missing_places-missing.ensures.missing;
      rows = λ t below.
          subst
          (λ (x : ℕ). HasRow (λ j. lagrange 8 (byte_times Qr) (slice_index c.args.sample.now.places) k j x)
          (drop (128 * k * (t / 4)) c.write_tables.new.tables) (t % 4) k)
          (get_or-take missing targets t 0 below) (c.write_tables.ensures.set t (omega (arith, below, listed)));
    }
