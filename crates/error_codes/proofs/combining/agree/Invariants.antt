use Rattle.std.proofs.Common.{◌≡◌, ◌<◌, ◌≤◌, ℕ, slice_index}
use Rattle.std.specs.Prelude.{◌↔◌}
use Rattle.field_base.specs.Interpolation.{interpolated}
use Rattle.reed_solomon.specs.ByteFields.{byte_times}
use Rattle.error_codes.specs.Wrong.{listed_share}
use Rattle.error_codes.proofs.combining.agree.Given as goal

-- nothing differs exactly where the shares so far have the values
abbrev pub invariant-loop-other : goal.invariant-loop-other
invariant-loop-other l =
    (l.difference ≡ 0) ↔ ((other : ℕ) → other < l.other → l.needed ≤ other → (j : ℕ) → j < l.size
    → interpolated 8 (byte_times l.field) (slice_index l.unmarked.indexes) (listed_share l.size l.shares l.unmarked.places j) l.needed (slice_index l.unmarked.indexes other)
    ≡ listed_share l.size l.shares l.unmarked.places j other)
