use Rattle.std.proofs.Common.{◌≡◌, ◌<◌, ◌≤◌, ℕ, true, length, slice_index}
use Rattle.field_slices.specs.Marks.{marked_below}
use Rattle.error_codes.specs.Filling.{is_marked}
use Rattle.error_codes.proofs.binary_bch.list_bytes.Given as goal

-- the marked bytes below this one are listed
abbrev pub invariant-loop-b : goal.invariant-loop-b
invariant-loop-b l =
    (l.count ≤ l.b) × (length l.bytes ≡ 256) × (l.count ≡ marked_below (is_marked l.marks) l.b)
    × ((b : ℕ) → b < l.b → is_marked l.marks b ≡ true → (p : ℕ) × (p < l.count) × (slice_index l.bytes p ≡ b))
