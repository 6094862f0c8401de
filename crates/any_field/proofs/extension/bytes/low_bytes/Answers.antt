use Rattle.std.proofs.Common.{◌≡◌, arith}
use Rattle.any_field.proofs.extension.bytes.low_bytes.Goals as goal

pub returns-clause-bytes : goal.returns-clause-bytes
returns-clause-bytes g c i below d =
    let all : c.loop-lane.lane ≡ 32 = omega arith in
    c.loop-lane.invariant.1 i (omega (arith, all, below)) d
