use Rattle.std.proofs.Common.{◌≡◌, ◌+◌, ◌-◌, ◌*◌, ◌≤◌, ℕ, List, take, length, slice_index, sym, ◌∙◌, ap, subst, arith}
use Rattle.std.proofs.lemmas.List.{length-take-le}
use Rattle.std.proofs.lemmas.Slice.{take-put_mid}
use Rattle.field_base.specs.Interpolation.{lagrange}
use Rattle.reed_solomon.specs.ByteFields.{byte_times}
use Rattle.reed_solomon.specs.declared.byte_field.ByteField.TheVariants.{Qr}
use Rattle.reed_solomon.specs.Tables.{HasRow}
use Rattle.reed_solomon.proofs.PreparedTables.{AreTablesBefore, no_tables, rows_room, tables_more, tables_whole}
use Rattle.reed_solomon.proofs.StripRows.{part_at, part_length}
use Rattle.reed_solomon.proofs.prepared.write_tables.Goals as goal

pub loop-group-init : goal.loop-group-init
loop-group-init c =
    no_tables _ c.args.sample.now.count (length c.args.points.now) (take (128 * c.args.sample.now.count * 0) c.args.tables.now)
    (length-take-le (128 * c.args.sample.now.count * 0) c.args.tables.now (omega arith) ∙ omega arith)

pub loop-group-preserved : goal.loop-group-preserved
loop-group-preserved c =
    let k = c.args.sample.now.count in
    let points = c.args.points.now in
    let m = length points in
    let group = c.loop-group.group in
    let count = c.group_size.result in
    let start = 128 * k * group in
    let entries = c.set_rows.new.entries in
    let gap = 4 * group + count - 4 * group in
    let same : gap ≡ count = omega arith in
    let inside : 4 * group + count ≤ m = omega (arith, c.group_size.ensures, c.loop-group-test.true) in
    let listed = part_length (4 * group) gap count points same inside in
    let factor = λ (t j : ℕ). lagrange 8 (byte_times Qr) (slice_index c.args.sample.now.places) k j (slice_index points t) in
    let room = rows_room k m group c.loop-group.tables (omega (arith, c.loop-group.auto.tables, c.requires.room)) c.loop-group-test.true in
    let long : 128 * k ≤ length entries = omega (arith, c.args.sample.now.few, c.set_rows.ensures.long) in
    subst (AreTablesBefore factor k m (group + 1))
    (sym (take-put_mid start _ c.loop-group.tables _ (128 * k * (group + 1))
    (omega (arith, ap (λ (l : List ℕ). length l) c.copy_from_slice.ensures.after ∙ length-take-le (128 * k) entries long)) (omega (arith, room))))
    (tables_more factor k m group count (take start c.loop-group.tables) entries _ c.loop-group.invariant c.loop-group-test.true
    c.copy_from_slice.ensures.after long c.group_size.ensures
    (λ row below.
    subst (λ (x : ℕ). HasRow (λ j. lagrange 8 (byte_times Qr) (slice_index c.args.sample.now.places) k j x) entries row k)
    (part_at (4 * group) gap count row points same below) (c.set_rows.ensures.set row (omega (arith, below, listed)))))

pub returns-clause-set : goal.returns-clause-set
returns-clause-set c =
    tables_whole _ c.args.sample.now.count (length c.args.points.now) c.loop-group.group c.loop-group.tables
    (omega (arith, c.loop-group-test.false)) c.loop-group.invariant
