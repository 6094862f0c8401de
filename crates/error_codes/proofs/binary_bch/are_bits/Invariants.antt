use Rattle.std.proofs.Common.{◌<◌, ℕ, slice_index}
use Rattle.error_codes.proofs.binary_bch.are_bits.Given as goal

abbrev pub invariant-loop-symbol : goal.invariant-loop-symbol
invariant-loop-symbol l = (i : ℕ) → i < l.symbol-index → slice_index l.word i < 2
