use Rattle.field_base.proofs.RemainderLaws.{rem_is_remainder, remainder_unique}
use Rattle.field_base.proofs.laws.remainder_is_unique.Goals as goal

pub returns : goal.returns
returns c = record { is_remainder = rem_is_remainder; is_unique = remainder_unique }
