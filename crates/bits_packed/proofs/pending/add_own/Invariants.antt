use Rattle.bits_packed.specs.BitMatrices.{sum_of_digits, word_of}
use Rattle.bits_packed.proofs.WordRanges.{StripSoFar}
use Rattle.bits_packed.proofs.pending.add_own.Given as goal

-- the rows before this one are done
abbrev pub invariant-loop-row : goal.invariant-loop-row
invariant-loop-row l =
    StripSoFar l.strip.words l.strip.start l.strip.width l.row
    (λ i w. sum_of_digits l.tables (word_of l.strip.words l.fn.matrix i l.word) 16 w) l.fn.matrix l.matrix
