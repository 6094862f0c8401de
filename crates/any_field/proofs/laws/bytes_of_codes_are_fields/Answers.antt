use Rattle.any_field.proofs.ByteModuli.{bytes_of_codes_are_fields}
use Rattle.any_field.proofs.laws.bytes_of_codes_are_fields.Goals as goal

pub returns : goal.returns
returns c = bytes_of_codes_are_fields
