use Rattle.std.proofs.Common.{◌≡◌, ◌<◌, ◌≤◌, ℕ, slice_index}
use Rattle.field_base.specs.Basis.{sum_below}
use Rattle.reed_solomon.specs.ByteFields.{byte_times}
use Rattle.error_codes.proofs.locating.next_sum.Given as goal

-- the terms so far are summed and replaced
abbrev pub invariant-loop-i : goal.invariant-loop-i
invariant-loop-i l =
    ((n : ℕ) → n < l.i → slice_index l.terms n ≡ byte_times l.field (slice_index l.indexes n) (slice_index l.initial.terms n))
    × ((n : ℕ) → l.i ≤ n → slice_index l.terms n ≡ slice_index l.initial.terms n)
    × (l.sum ≡ sum_below (slice_index l.initial.terms) l.i)
