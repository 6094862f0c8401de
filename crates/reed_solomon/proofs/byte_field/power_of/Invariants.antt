use Rattle.std.proofs.Common.{◌≡◌, ◌<◌}
use Rattle.field_base.specs.Powers.{power}
use Rattle.reed_solomon.specs.ByteFields.{byte_times}
use Rattle.reed_solomon.proofs.byte_field.power_of.Given as goal

-- what is left to multiply, times what is there, is the whole power
abbrev pub invariant-loop-rest : goal.invariant-loop-rest
invariant-loop-rest l =
    (byte_times l.field l.value (power 1 (byte_times l.field) l.base l.rest)
    ≡ power 1 (byte_times l.field) l.a l.exponent)
    × (l.value < 256)

abbrev pub decreases-loop-rest : goal.decreases-loop-rest
decreases-loop-rest l = l.rest
