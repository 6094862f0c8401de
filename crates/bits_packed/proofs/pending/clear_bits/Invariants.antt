use Rattle.std.specs.Prelude.{bit_and}
use Rattle.bits_packed.specs.BitMatrices.{word_of}
use Rattle.bits_packed.proofs.WordRanges.{StripSoFar}
use Rattle.bits_packed.proofs.pending.clear_bits.Given as goal

-- the rows before this one are done
abbrev pub invariant-loop-row : goal.invariant-loop-row
invariant-loop-row l =
    StripSoFar l.shape.words l.word 1 l.row (λ i w. bit_and (word_of l.shape.words l.fn.matrix i l.word) l.mask) l.fn.matrix l.matrix
