use Rattle.std.proofs.Common.{◌-◌}
use Rattle.std.specs.Prelude.{slice_index}
use Rattle.std.specs.Int.{bit_at}
use Rattle.bits_packed.specs.BitMatrices.{IsBlockWritten}
use Rattle.bits_packed.proofs.transposes.put_block.Given as goal

-- the rows before this one are done
abbrev pub invariant-loop-offset : goal.invariant-loop-offset
invariant-loop-offset l =
    IsBlockWritten l.shape.rows l.shape.words l.first l.offset l.word (λ i b. bit_at (slice_index l.words (i - l.first)) b) l.fn.target l.target
