use Rattle.std.proofs.Common.{◌*◌, ◌/◌}
use Rattle.bits_packed.specs.BitMatrices.{bit_entry, word_of}
use Rattle.bits_packed.proofs.WordRanges.{StripSoFar}
use Rattle.bits_packed.proofs.reduction.add_word_of.Given as goal

-- the rows before this one are done
abbrev pub invariant-loop-other : goal.invariant-loop-other
invariant-loop-other l =
    StripSoFar l.shape.words (l.column / 64) 1 l.other
    (λ i w. bit_entry l.shape.words l.fn.matrix i l.column * word_of l.shape.words l.fn.matrix l.row (l.column / 64)) l.fn.matrix l.matrix
