use Rattle.std.proofs.Common.{◌≡◌, ◌⊎◌, ◌+◌, ◌-◌, ◌*◌, ◌<◌, ◌≤◌, ℕ, length, take, drop, slice_index, sym, ◌∙◌, ap, subst, arith}
use Rattle.std.proofs.lemmas.List.{get_or-take, length-take-le}
use Rattle.field_base.specs.Interpolation.{lagrange}
use Rattle.reed_solomon.specs.ByteFields.{byte_times}
use Rattle.reed_solomon.specs.declared.byte_field.ByteField.TheVariants.{Qr}
use Rattle.reed_solomon.specs.Samples.{symbol_at}
use Rattle.reed_solomon.specs.Tables.{AreApart, AreWritten}
use Rattle.reed_solomon.proofs.GroupWriting.{apart_places, group_symbols, group_written}
use Rattle.reed_solomon.proofs.PreparedTables.{group_tables, group_within}
use Rattle.reed_solomon.proofs.StripRows.{part_at, part_length}
use Rattle.reed_solomon.proofs.missing.restore_prepared.Goals as goal

pub restore_group-requires-clause-fits : goal.restore_group-requires-clause-fits
restore_group-requires-clause-fits c =
    omega (arith, c.requires.room (4 * c.loop-group.group) (omega (arith, c.loop-group-test.true)), c.loop-group.auto.shards)

pub restore_group-requires-clause-read : goal.restore_group-requires-clause-read
restore_group-requires-clause-read c = λ j row below within.
    let k = c.args.k in
    let targets = c.args.targets.now in
    let starts = c.starts_of-starts.result in
    let done = 4 * c.loop-group.group in
    let group = c.group_size.result in
    let gap = done + group - done in
    let same : gap ≡ group = omega arith in
    let listed : length (take k starts) ≡ k = length-take-le k starts (omega (arith, c.requires.sample, c.starts_of-starts.ensures.long)) in
    let of_sample : j < k = omega (arith, below, listed) in
    let whole : done + group ≤ c.args.count = omega (arith, c.group_size.ensures, c.loop-group-test.true) in
    let points : length (take gap (drop done targets)) ≡ group = part_length done gap group targets same (omega (arith, whole, c.requires.few)) in
    let inside : row < group = omega (arith, within, points) in
    subst (λ (p : ℕ). AreApart c.args.size p (slice_index (take gap (drop done targets)) row * c.args.size))
    (sym (get_or-take k starts j 0 of_sample ∙ c.starts_of-starts.ensures.starts j of_sample))
    (subst (λ (p : ℕ). AreApart c.args.size (slice_index c.args.places.now j * c.args.size) (p * c.args.size))
    (sym (part_at done gap group row targets same inside))
    (apart_places c.args.size (slice_index c.args.places.now j) (slice_index targets (done + row))
    (c.requires.apart j (done + row) of_sample (omega (arith, inside, whole)))))

pub loop-group-preserved : goal.loop-group-preserved
loop-group-preserved c =
    let k = c.args.k in
    let size = c.args.size in
    let place = slice_index c.args.places.now in
    let targets = c.args.targets.now in
    let target = slice_index targets in
    let starts = c.starts_of-starts.result in
    let group = c.loop-group.group in
    let done = 4 * group in
    let n = c.group_size.result in
    let gap = done + n - done in
    let same : gap ≡ n = omega arith in
    let within = group_within c.args.count group n c.loop-group-test.true c.group_size.ensures in
    let points : length (take gap (drop done targets)) ≡ n = part_length done gap n targets same (omega (arith, within.0, c.requires.few)) in (
      (λ i outside.
          c.restore_group.ensures.others i (λ row below.
          subst (λ (p : ℕ). (i < p * size) ⊎ (p * size + size ≤ i)) (sym (part_at done gap n row targets same (omega (arith, below, points))))
          (outside (done + row) (omega (arith, below, points, within.1))))
          ∙ c.loop-group.invariant.0 i (λ t below. outside t (omega (arith, below, within.1, within.2)))),
      λ all.
          group_written k size place target c.args.count c.requires.apart c.requires.distinct _ done n _ c.args.shards.now c.loop-group.shards _
          within.2 within.1 within.0 (c.loop-group.invariant.1 all)
          (group_symbols k size place (λ row. target (done + row)) _ c.loop-group.shards (take k starts)
          (λ row. slice_index (take gap (drop done targets)) row * size) (λ row. target (done + row) * size)
          (length (take gap (drop done targets))) n c.loop-group.shards _ points
          (length-take-le k starts (omega (arith, c.requires.sample, c.starts_of-starts.ensures.long)))
          (λ j below. get_or-take k starts j 0 below ∙ c.starts_of-starts.ensures.starts j below)
          (λ row below. ap (λ (p : ℕ). p * size) (part_at done gap n row targets same below))
          (group_tables (λ t j. lagrange 8 (byte_times Qr) place k j (target t)) k c.args.count group n c.args.tables.now all c.group_size.ensures)
          c.bytes_fit.ensures c.restore_group.ensures),
    )

pub returns-clause-others : goal.returns-clause-others
returns-clause-others c = λ i outside.
    c.loop-group.invariant.0 i (λ t below. outside t (omega (arith, below, c.loop-group-test.false)))

pub returns-clause-restored : goal.returns-clause-restored
returns-clause-restored c = λ all.
    let before = c.loop-group.invariant.1 all in
    subst
    (λ (n : ℕ). AreWritten (λ t column. symbol_at c.args.k c.args.size (slice_index c.args.places.now) c.args.shards.now column (slice_index c.args.targets.now t))
    (λ t. slice_index c.args.targets.now t * c.args.size) n c.args.size c.args.shards.now c.loop-group.shards)
    (omega (arith, c.loop-group-test.false)) before
