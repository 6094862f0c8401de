use Rattle.std.proofs.Common.{◌<◌, ℕ, slice_index}
use Rattle.c_calls.proofs.binary_codes.are_bits.Given as goal

-- the symbols before this one are bits
abbrev pub invariant-loop-symbol : goal.invariant-loop-symbol
invariant-loop-symbol l = (i : ℕ) → i < l.symbol-index → slice_index l.word i < 2
