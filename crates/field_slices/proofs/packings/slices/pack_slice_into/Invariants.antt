use Rattle.std.proofs.Common.{◌≡◌, ◌++◌, take}
use Rattle.std.specs.List.{flat_map}
use Rattle.packed_lanes.specs.Packed.{lanes_of}
use Rattle.field_slices.proofs.packings.slices.pack_slice_into.Given as goal

-- the values are the lanes of the packings before this one, and the rest behind them
abbrev pub invariant-loop-place : goal.invariant-loop-place
invariant-loop-place g l = flat_map lanes_of (take l.place l.packings) ++ l.rest ≡ l.values
