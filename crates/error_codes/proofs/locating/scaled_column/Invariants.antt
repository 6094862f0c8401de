use Rattle.std.proofs.Common.{◌≡◌, ◌<◌, ℕ, length, slice_index}
use Rattle.reed_solomon.specs.ByteFields.{byte_times}
use Rattle.error_codes.specs.Sharing.{share_at}
use Rattle.error_codes.proofs.locating.scaled_column.Given as goal

abbrev pub invariant-loop-i : goal.invariant-loop-i
invariant-loop-i l =
    (length l.terms ≡ 255)
    × ((i : ℕ) → i < l.i → slice_index l.terms i ≡ byte_times l.field (slice_index l.scales i) (share_at l.size l.shares l.j i))
