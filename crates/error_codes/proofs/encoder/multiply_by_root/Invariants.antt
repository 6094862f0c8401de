use Rattle.std.proofs.Common.{◌≡◌, ◌<◌, ◌≤◌, ◌+◌, ℕ, length, slice_index}
use Rattle.std.specs.Prelude.{bit_xor}
use Rattle.reed_solomon.specs.ByteFields.{byte_times}
use Rattle.error_codes.proofs.encoder.multiply_by_root.Given as goal

abbrev pub invariant-loop-j : goal.invariant-loop-j
invariant-loop-j l =
    ((length l.product ≡ 256) × (slice_index l.product 0 ≡ slice_index l.coefficients 0)
    × ((n : ℕ) → n + 1 < l.j → slice_index l.product (n + 1)
    ≡ bit_xor (slice_index l.coefficients (n + 1)) (byte_times l.field l.root (slice_index l.coefficients n))))
    × ((n : ℕ) → l.j ≤ n → slice_index l.product n ≡ slice_index l.coefficients n)
