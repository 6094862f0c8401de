use Rattle.std.proofs.Common.{◌≡◌, ◌++◌, length}
use Rattle.std.specs.List.{flat_map}
use Rattle.packed_lanes.specs.Packed.{lanes_of}
use Rattle.field_slices.proofs.packings.slices.pack_slice.Given as goal

-- the values are the lanes of the packings, and the rest behind them
abbrev pub invariant-packings : goal.invariant-packings
invariant-packings g l = flat_map lanes_of l.packings.items ++ l.rest ≡ l.values

abbrev pub decreases-packings : goal.decreases-packings
decreases-packings g l = length l.rest
