use Rattle.std.proofs.Common.{◌≡◌, ◌<◌, ℕ, length, slice_index}
use Rattle.field_base.specs.Interpolation.{lagrange}
use Rattle.reed_solomon.specs.ByteFields.{byte_times}
use Rattle.reed_solomon.specs.declared.byte_field.ByteField.TheVariants.{Qr}
use Rattle.reed_solomon.specs.Tables.{HasRow}
use Rattle.reed_solomon.proofs.groups.set_rows.Given as goal

abbrev pub invariant-loop-row : goal.invariant-loop-row
invariant-loop-row l =
    ((r : ℕ) → r < l.row
    → HasRow (λ j. lagrange 8 (byte_times Qr) (slice_index l.sample.places) l.sample.count j (slice_index l.points r)) l.entries r l.sample.count)
    × (length l.entries ≡ length l.initial.entries)
