use Rattle.std.proofs.Common.{◌+◌}
use Rattle.std.specs.Prelude.{slice_index}
use Rattle.bits_packed.proofs.WordRanges.{IsFilledTo}
use Rattle.bits_packed.proofs.rows.words_from.Given as goal

-- the words before this one are copied
abbrev pub invariant-loop-place : goal.invariant-loop-place
invariant-loop-place l = IsFilledTo 8 (λ p. slice_index l.words (l.first + p)) l.place l.out
