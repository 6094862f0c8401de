use Rattle.bits_packed.specs.BitMatrices.{IsRangeWritten}
use Rattle.bits_packed.proofs.rows.clear.Given as goal

-- the words before this one are 0
abbrev pub invariant-loop-place : goal.invariant-loop-place
invariant-loop-place l = IsRangeWritten l.first l.place (λ p. 0) l.fn.words l.words
