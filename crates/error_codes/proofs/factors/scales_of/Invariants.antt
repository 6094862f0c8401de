use Rattle.std.proofs.Common.{◌≡◌, ◌<◌, ℕ, length, slice_index}
use Rattle.error_codes.specs.Checks.{dual_weight}
use Rattle.reed_solomon.specs.ByteFields.{byte_times}
use Rattle.error_codes.proofs.factors.scales_of.Given as goal

abbrev pub invariant-loop-own : goal.invariant-loop-own
invariant-loop-own l =
    (length l.scales ≡ 255)
    × ((i : ℕ) → i < l.own → slice_index l.scales i ≡ dual_weight 8 (byte_times l.field) (length l.indexes) (slice_index l.indexes) i)
