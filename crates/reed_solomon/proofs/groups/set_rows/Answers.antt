use Rattle.std.proofs.Common.{◌∙◌, slice_index, arith}
use Rattle.field_base.specs.Interpolation.{lagrange}
use Rattle.reed_solomon.specs.ByteFields.{byte_times}
use Rattle.reed_solomon.specs.declared.byte_field.ByteField.TheVariants.{Qr}
use Rattle.reed_solomon.proofs.GroupWriting.{rows_set}
use Rattle.reed_solomon.proofs.groups.set_rows.Goals as goal

pub loop-row-preserved : goal.loop-row-preserved
loop-row-preserved c = (
  rows_set
      (λ r j. lagrange 8 (byte_times Qr) (slice_index c.args.sample.now.places) c.args.sample.now.count j (slice_index c.args.points.now r))
      (slice_index c.factors-factors.result) c.loop-row.row c.args.sample.now.count c.loop-row.entries _
      (omega (arith, c.requires.rows, c.loop-row-test.true)) c.loop-row.invariant.0 c.set_row.ensures.set c.factors-factors.ensures c.set_row.ensures.others,
  c.set_row.ensures.long ∙ c.loop-row.invariant.1,
)
