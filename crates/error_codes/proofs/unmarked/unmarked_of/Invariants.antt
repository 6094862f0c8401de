use Rattle.std.proofs.Common.{◌≡◌, ◌<◌, ℕ, length, slice_index}
use Rattle.error_codes.specs.Filling.{is_marked}
use Rattle.error_codes.specs.Wrong.{AreUnmarked}
use Rattle.error_codes.proofs.unmarked.unmarked_of.Given as goal

-- the unmarked places so far
abbrev pub invariant-loop-i : goal.invariant-loop-i
invariant-loop-i l =
    (length l.places ≡ 255) × (length l.own ≡ 255) × AreUnmarked (is_marked l.marked) l.i l.count l.places
    × ((p : ℕ) → p < l.count → slice_index l.own p ≡ slice_index l.indexes (slice_index l.places p))
