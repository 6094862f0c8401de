use Rattle.std.proofs.Common.{◌≡◌, ◌<◌, ℕ, slice_index}
use Rattle.field_base.specs.Interpolation.{interpolated}
use Rattle.reed_solomon.specs.ByteFields.{byte_times}
use Rattle.error_codes.specs.Wrong.{listed_share}
use Rattle.error_codes.proofs.combining.restore.Given as goal

abbrev pub invariant-loop-j : goal.invariant-loop-j
invariant-loop-j l = (j : ℕ) → j < l.j → slice_index l.secret j
    ≡ interpolated 8 (byte_times l.field) (slice_index l.unmarked.indexes) (listed_share l.size l.shares l.unmarked.places j) l.needed 0
