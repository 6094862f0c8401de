use Rattle.field_base.proofs.RemainderRing.{mul_mod_is_remainder, mul_mod_ring}
use Rattle.field_base.proofs.laws.mul_mod_is_ring.Goals as goal

pub returns : goal.returns
returns c = record { is_remainder = mul_mod_is_remainder; is_ring = mul_mod_ring }
