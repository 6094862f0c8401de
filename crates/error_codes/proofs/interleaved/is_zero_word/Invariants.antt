use Rattle.std.proofs.Common.{◌≡◌, ◌<◌, ◌+◌, ◌*◌, ℕ, slice_index}
use Rattle.error_codes.proofs.interleaved.is_zero_word.Given as goal

abbrev pub invariant-loop-m : goal.invariant-loop-m
invariant-loop-m l = (k : ℕ) → k < l.m → slice_index l.symbols (k * l.depth + l.c) ≡ 0
