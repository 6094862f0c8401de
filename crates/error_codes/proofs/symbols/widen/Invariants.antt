use Rattle.std.proofs.Common.{◌≡◌, ◌<◌, ℕ, length, slice_index}
use Rattle.error_codes.proofs.symbols.widen.Given as goal

abbrev pub invariant-loop-i : goal.invariant-loop-i
invariant-loop-i l = (length l.words ≡ length l.bytes) × ((n : ℕ) → n < l.i → slice_index l.words n ≡ slice_index l.bytes n)
