use Rattle.std.proofs.Common.{◌≡◌, ◌<◌, ℕ, length, slice_index}
use Rattle.field_base.specs.Interpolation.{lagrange}
use Rattle.reed_solomon.specs.ByteFields.{byte_times}
use Rattle.error_codes.proofs.factors.factors_at.Given as goal

abbrev pub invariant-loop-own : goal.invariant-loop-own
invariant-loop-own l =
    (length l.factors ≡ 255)
    × ((i : ℕ) → i < l.own → slice_index l.factors i ≡ lagrange 8 (byte_times l.field) (slice_index l.indexes) l.needed i l.x)
