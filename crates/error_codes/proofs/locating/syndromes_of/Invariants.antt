use Rattle.std.proofs.Common.{◌≡◌, ◌<◌, ℕ, length, slice_index}
use Rattle.error_codes.specs.Checks.{syndrome}
use Rattle.field_base.specs.Powers.{power}
use Rattle.reed_solomon.specs.ByteFields.{byte_times}
use Rattle.error_codes.specs.Sharing.{share_at}
use Rattle.error_codes.proofs.locating.syndromes_of.Given as goal

-- the syndromes so far, and the terms of the next
abbrev pub invariant-loop-m : goal.invariant-loop-m
invariant-loop-m l =
    let times = byte_times l.field in
    (length l.sums ≡ 256)
    × ((m : ℕ) → m < l.m → slice_index l.sums m
    ≡ syndrome times (length l.indexes) (slice_index l.indexes) (slice_index l.scales) (share_at l.size l.shares l.j) m)
    × ((i : ℕ) → i < length l.indexes → slice_index l.terms i
    ≡ times (times (slice_index l.scales i) (share_at l.size l.shares l.j i)) (power 1 times (slice_index l.indexes i) l.m))
