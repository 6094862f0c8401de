use Rattle.reed_solomon.proofs.ByteFields.{bytes_are_fields}
use Rattle.reed_solomon.proofs.byte_field.bytes_are_fields.Goals as goal

pub returns : goal.returns
returns c = bytes_are_fields
