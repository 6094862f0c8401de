use Rattle.std.proofs.Common.{arith}
use Rattle.field_base.specs.Bit.{bit_number}
use Rattle.field_base.specs.lemmas.Bit.{same_repr}
use Rattle.field_bytes.proofs.Taking.{element_read}
use Rattle.field_bytes.proofs.bit.Gf2RawDataSerializable.from_le_byte_iter_by_ref.Goals as goal

pub returns-in-Some : goal.returns-in-Some
returns-in-Some g c = element_read bit_number 1 c.from_repr.result (omega arith) c.in-Some.ensures c.from_repr.ensures (λ x. x.in_range) same_repr
