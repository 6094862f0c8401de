use Rattle.std.proofs.Common.{◌*◌, length, slice_index, take}
use Rattle.field_base.specs.Interpolation.{lagrange}
use Rattle.reed_solomon.specs.ByteFields.{byte_times}
use Rattle.reed_solomon.specs.declared.byte_field.ByteField.TheVariants.{Qr}
use Rattle.reed_solomon.proofs.PreparedTables.{AreTablesBefore}
use Rattle.reed_solomon.proofs.prepared.write_tables.Given as goal

abbrev pub invariant-loop-group : goal.invariant-loop-group
invariant-loop-group l =
    AreTablesBefore (λ t j. lagrange 8 (byte_times Qr) (slice_index l.sample.places) l.sample.count j (slice_index l.points t)) l.sample.count
    (length l.points) l.group (take (128 * l.sample.count * l.group) l.tables)
