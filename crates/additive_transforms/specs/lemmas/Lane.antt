-- The byte in a lane is one.
use Rattle.std.specs.Prelude.{ℕ, ◌^◌, ◌<◌, List, slice_index}
use Rattle.std.proofs.Common.{lit<}
use native.Mathlib.Nat.{mod-lt}
use Rattle.additive_transforms.specs.Rows.{byte_of_lane}

pub byte_of_lane-lt : (bytes : List ℕ) (l : ℕ) → byte_of_lane bytes l < 2 ^ 2 ^ 3
byte_of_lane-lt bytes l = mod-lt (slice_index bytes l) (lit< tt)
