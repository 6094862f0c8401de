use Rattle.std.proofs.Common.{◌∙◌, arith}
use Rattle.reed_solomon.proofs.ByteFields.{ccsds_tables, qr_tables}
use Rattle.reed_solomon.proofs.byte_field.multiply.Goals as goal

pub power_of_sum-requires : goal.power_of_sum-requires
power_of_sum-requires c = qr_tables.products.fits

pub power_of_sum-requires-in-Ccsds : goal.power_of_sum-requires-in-Ccsds
power_of_sum-requires-in-Ccsds c = ccsds_tables.products.fits

pub returns-in-Qr : goal.returns-in-Qr
returns-in-Qr c =
    rw c.in-Qr.is (c.power_of_sum.ensures ∙ qr_tables.products.product c.args.a c.args.b (omega arith) (omega arith))

pub returns-in-Ccsds : goal.returns-in-Ccsds
returns-in-Ccsds c =
    rw c.in-Ccsds.is (c.power_of_sum-in-Ccsds.ensures ∙ ccsds_tables.products.product c.args.a c.args.b (omega arith) (omega arith))
