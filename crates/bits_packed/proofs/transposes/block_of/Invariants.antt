use Rattle.std.proofs.Common.{◌+◌}
use Rattle.bits_packed.specs.BitMatrices.{row_word}
use Rattle.bits_packed.proofs.WordRanges.{IsFilledTo}
use Rattle.bits_packed.proofs.transposes.block_of.Given as goal

-- the words before this one are read
abbrev pub invariant-loop-offset : goal.invariant-loop-offset
invariant-loop-offset l = IsFilledTo 64 (λ k. row_word l.shape.rows l.shape.words l.source (l.first + k) l.word) l.offset l.block
