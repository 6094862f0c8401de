use Rattle.std.proofs.Common.{◌≡◌, ◌*◌, take}
use Rattle.std.specs.List.{flat_map}
use Rattle.packed_lanes.specs.Packed.{lanes_of}
use Rattle.field_slices.proofs.packings.slices.unpack_slice.Given as goal

-- the lanes of the packings before this one are written
abbrev pub invariant-loop-packing : goal.invariant-loop-packing
invariant-loop-packing g l =
    (l.start ≡ l.packing-index * g.row.N)
    × (take l.start l.values ≡ flat_map lanes_of (take l.packing-index l.packings))
