use Rattle.std.proofs.Common.{◌≡◌, ◌+◌, ◌-◌, ◌*◌, ◌<◌, ◌≤◌, ℕ, length, take, drop, slice_index, refl, sym, ◌∙◌, ap, subst, arith}
use Rattle.std.proofs.lemmas.List.{get_or-take, length-take-le}
use Rattle.field_base.specs.Interpolation.{lagrange}
use Rattle.reed_solomon.specs.ByteFields.{byte_times}
use Rattle.reed_solomon.specs.declared.byte_field.ByteField.TheVariants.{Qr}
use Rattle.reed_solomon.specs.Tables.{AreApart, HasRow}
use Rattle.reed_solomon.proofs.GroupWriting.{apart_places, group_symbols, group_written}
use Rattle.reed_solomon.proofs.StripRows.{part_at, part_length}
use Rattle.reed_solomon.proofs.groups.restore_by_tables.Goals as goal

pub restore_group-requires-clause-fits : goal.restore_group-requires-clause-fits
restore_group-requires-clause-fits c =
    omega (arith, c.requires.room c.loop-done.done c.loop-done-test.true, c.loop-done.auto.shards)

pub restore_group-requires-clause-read : goal.restore_group-requires-clause-read
restore_group-requires-clause-read c = λ j row below within.
    let count = c.args.sample.now.count in
    let targets = c.args.targets.now in
    let starts = c.starts_of-starts.result in
    let done = c.loop-done.done in
    let group = c.group_size.result in
    let gap = done + group - done in
    let same : gap ≡ group = omega arith in
    let listed : length (take count starts) ≡ count = length-take-le count starts (omega (arith, c.args.sample.now.few, c.starts_of-starts.ensures.long)) in
    let of_sample : j < count = omega (arith, below, listed) in
    let whole : done + group ≤ c.args.count = omega (arith, c.group_size.ensures, c.loop-done-test.true) in
    let points : length (take gap (drop done targets)) ≡ group = part_length done gap group targets same (omega arith) in
    let inside : row < group = omega (arith, within, points) in
    subst (λ (p : ℕ). AreApart c.args.size p (slice_index (take gap (drop done targets)) row * c.args.size))
    (sym (get_or-take count starts j 0 of_sample ∙ c.starts_of-starts.ensures.starts j of_sample))
    (subst (λ (p : ℕ). AreApart c.args.size (slice_index c.args.sample.now.places j * c.args.size) (p * c.args.size))
    (sym (part_at done gap group row targets same inside))
    (apart_places c.args.size (slice_index c.args.sample.now.places j) (slice_index targets (done + row))
    (c.requires.apart j (done + row) of_sample (omega (arith, inside, whole)))))

pub loop-done-preserved : goal.loop-done-preserved
loop-done-preserved c =
    let count = c.args.sample.now.count in
    let size = c.args.size in
    let place = slice_index c.args.sample.now.places in
    let target = slice_index c.args.targets.now in
    let starts = c.starts_of-starts.result in
    let done = c.loop-done.done in
    let group = c.group_size.result in
    let gap = done + group - done in
    let same : gap ≡ group = omega arith in
    let whole : done + group ≤ c.args.count = omega (arith, c.group_size.ensures, c.loop-done-test.true) in
    let points : length (take gap (drop done c.args.targets.now)) ≡ group = part_length done gap group c.args.targets.now same (omega arith) in (
      whole,
      group_written count size place target c.args.count c.requires.apart c.requires.distinct done done group (done + group) c.args.shards.now
          c.loop-done.shards _ refl refl whole c.loop-done.invariant.1
          (group_symbols count size place (λ row. target (done + row)) c.set_rows.new.entries c.loop-done.shards (take count starts)
          (λ row. slice_index (take gap (drop done c.args.targets.now)) row * size) (λ row. target (done + row) * size)
          (length (take gap (drop done c.args.targets.now))) group c.loop-done.shards _ points
          (length-take-le count starts (omega (arith, c.args.sample.now.few, c.starts_of-starts.ensures.long)))
          (λ j below. get_or-take count starts j 0 below ∙ c.starts_of-starts.ensures.starts j below)
          (λ row below. ap (λ (p : ℕ). p * size) (part_at done gap group row c.args.targets.now same below))
          (λ row below.
          subst (λ (x : ℕ). HasRow (λ j. lagrange 8 (byte_times Qr) place count j x) c.set_rows.new.entries row count)
          (part_at done gap group row c.args.targets.now same below) (c.set_rows.ensures.set row (omega (arith, below, points))))
          c.bytes_fit.ensures c.restore_group.ensures),
    )
