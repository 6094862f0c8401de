use Rattle.std.proofs.Common.{◌≡◌, ◌<◌, ◌+◌, ℕ, slice_index}
use Rattle.reed_solomon.specs.ByteFields.{byte_times}
use Rattle.error_codes.specs.Correcting.{code_value}
use Rattle.error_codes.proofs.encoder.generator_polynomial.Given as goal

abbrev pub invariant-loop-m : goal.invariant-loop-m
invariant-loop-m l =
    (slice_index l.product 0 ≡ 1) × ((j : ℕ) → l.m < j → j < 256 → slice_index l.product j ≡ 0)
    × ((n : ℕ) → n < l.m
    → code_value (byte_times l.field) (l.m + 1) (slice_index l.product) (slice_index l.roots n) ≡ 0)
