use Rattle.std.proofs.Common.{arith}
use Rattle.std.specs.Prelude.{slice_index}
use Rattle.bits_packed.specs.BitMatrices.{entry_within}
use Rattle.bits_packed.proofs.WordColumns.{mask_more, mask_start, row_bit-lt}
use Rattle.bits_packed.proofs.pending.pivot_mask.Goals as goal

pub loop-bit-init : goal.loop-bit-init
loop-bit-init c = mask_start (λ b. entry_within c.args.rows (λ k j. 1) (slice_index c.args.places.now b) 0)

pub loop-bit-preserved : goal.loop-bit-preserved
loop-bit-preserved c =
    mask_more (λ b. entry_within c.args.rows (λ k j. 1) (slice_index c.args.places.now b) 0) c.loop-bit.bit c.loop-bit.mask c.pivot_bit-mask.result
    (row_bit-lt c.args.rows (slice_index c.args.places.now c.loop-bit.bit)) c.pivot_bit-mask.ensures c.loop-bit.invariant

pub returns : goal.returns
returns c = λ b inside. c.loop-bit.invariant.done b (omega (arith, inside))
