use Rattle.std.specs.Prelude.{slice_index}
use Rattle.bits_packed.specs.BitMatrices.{entry_within}
use Rattle.bits_packed.proofs.WordColumns.{MaskSoFar}
use Rattle.bits_packed.proofs.pending.pivot_mask.Given as goal

-- the bits before this one are done
abbrev pub invariant-loop-bit : goal.invariant-loop-bit
invariant-loop-bit l = MaskSoFar (λ b. entry_within l.rows (λ k j. 1) (slice_index l.places b) 0) l.bit l.mask
