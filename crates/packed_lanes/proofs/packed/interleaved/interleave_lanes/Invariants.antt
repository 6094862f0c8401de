use Rattle.std.proofs.Common.{◌≡◌, ◌<◌, ℕ}
use Rattle.std.specs.Prelude.{slice_index_or}
use Rattle.packed_lanes.specs.Lanes.{interleaved_first, interleaved_second}
use Rattle.packed_lanes.proofs.packed.interleaved.interleave_lanes.Given as goal

-- the lanes before this one are written
abbrev pub invariant-loop-lane : goal.invariant-loop-lane
invariant-loop-lane g l =
    ((k : ℕ) (d : _) → k < l.lane → (e : _) → slice_index_or l.first k d ≡ interleaved_first l.block_len l.left l.right e k)
    × ((k : ℕ) (d : _) → k < l.lane → (e : _) → slice_index_or l.second k d ≡ interleaved_second l.block_len l.left l.right e k)
