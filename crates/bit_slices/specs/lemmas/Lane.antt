-- A lane of words is a bit.
use Rattle.std.proofs.Common.{ℕ, ◌<◌, ◌/◌, ◌%◌, ◌^◌, List, lit<}
use Rattle.std.specs.Prelude.{slice_index}
use native.Mathlib.Nat.{mod-lt}
use Rattle.bit_slices.specs.Lanes.{bit_lane}

pub bit_lane-lt : (x : List ℕ) (l : ℕ) → bit_lane x l < 2
bit_lane-lt x l = mod-lt (slice_index x (l / 64) / 2 ^ (l % 64)) (lit< tt)
