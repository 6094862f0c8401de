use Rattle.reed_solomon.specs.declared.byte_field.ByteField.TheVariants.{Qr}
use Rattle.reed_solomon.proofs.byte_field.erasure_field.Goals as goal

pub returns : goal.returns
returns c = c.bytes_are_fields.ensures Qr
