use Rattle.std.proofs.Common.{refl, arith}
use Rattle.bits_packed.proofs.WordRanges.{range_end, range_start, range_step}
use Rattle.bits_packed.proofs.rows.clear.Goals as goal

pub loop-place-init : goal.loop-place-init
loop-place-init c = range_start

pub loop-place-preserved : goal.loop-place-preserved
loop-place-preserved c =
    range_step c.loop-place.invariant 0 (omega arith) refl

pub returns : goal.returns
returns c = range_end c.loop-place.invariant c.args.count (omega arith)
