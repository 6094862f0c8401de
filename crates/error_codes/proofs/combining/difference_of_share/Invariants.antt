use Rattle.std.proofs.Common.{◌≡◌, ◌<◌, ℕ, slice_index}
use Rattle.std.specs.Prelude.{◌↔◌}
use Rattle.field_base.specs.Interpolation.{interpolated}
use Rattle.reed_solomon.specs.ByteFields.{byte_times}
use Rattle.error_codes.specs.Wrong.{listed_share}
use Rattle.error_codes.proofs.combining.difference_of_share.Given as goal

-- nothing differs exactly where the bytes so far are the values
abbrev pub invariant-loop-j : goal.invariant-loop-j
invariant-loop-j l =
    (l.difference ≡ 0) ↔ ((j : ℕ) → j < l.j → interpolated 8 (byte_times l.field) (slice_index l.unmarked.indexes) (listed_share l.size l.shares l.unmarked.places j) l.needed
    (slice_index l.unmarked.indexes l.other) ≡ listed_share l.size l.shares l.unmarked.places j l.other)
