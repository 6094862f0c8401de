use Rattle.std.proofs.Common.{◌+◌, refl, slice_index, arith}
use Rattle.reed_solomon.proofs.GroupWriting.{entry_next}
use Rattle.reed_solomon.proofs.blocks.held_entries.Goals as goal

pub loop-i-preserved : goal.loop-i-preserved
loop-i-preserved c =
    entry_next (λ i. slice_index c.args.entries.now (c.args.first + i)) 256 c.loop-i.i _ c.loop-i.held c.loop-i.invariant.0
    (omega (arith, c.requires.few, c.loop-i-test.true)) c.loop-i.invariant.1 refl
