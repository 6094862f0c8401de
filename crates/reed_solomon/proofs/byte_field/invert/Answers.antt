use Rattle.std.proofs.Common.{◌∙◌, ap, arith}
use Rattle.reed_solomon.specs.ByteFields.{byte_times}
use Rattle.reed_solomon.specs.declared.byte_field.ByteField.TheVariants.{Ccsds, Qr}
use Rattle.reed_solomon.proofs.ByteFields.{ccsds_tables, qr_tables}
use Rattle.reed_solomon.proofs.byte_field.invert.Goals as goal

pub power_to_one-requires : goal.power_to_one-requires
power_to_one-requires c = qr_tables.short c.args.a (omega arith) c.requires

pub power_to_one-requires-in-Ccsds : goal.power_to_one-requires-in-Ccsds
power_to_one-requires-in-Ccsds c = ccsds_tables.short c.args.a (omega arith) c.requires

pub returns-in-Qr : goal.returns-in-Qr
returns-in-Qr c = rw c.in-Qr.is (ap (byte_times Qr c.args.a) c.power_to_one.ensures ∙ qr_tables.inverses c.args.a (omega arith) c.requires)

pub returns-in-Ccsds : goal.returns-in-Ccsds
returns-in-Ccsds c =
    rw c.in-Ccsds.is (ap (byte_times Ccsds c.args.a) c.power_to_one-in-Ccsds.ensures ∙ ccsds_tables.inverses c.args.a (omega arith) c.requires)
