use Rattle.std.proofs.Common.{◌≡◌, ◌+◌, ◌%◌, ◌^◌, ◌<◌, ℕ, get_or, length}
use Rattle.std.specs.Prelude.{slice_index}
use Rattle.any_field.proofs.extension.bytes.low_bytes.Given as goal

-- the lanes before this one are read
abbrev pub invariant-loop-lane : goal.invariant-loop-lane
invariant-loop-lane g l =
    (length l.bytes ≡ 32)
    × ((i : ℕ) → i < l.lane → (d : _) → slice_index l.bytes i ≡ g.W.Reads.number (get_or l.words (l.start + i) d) % 2 ^ 8)
