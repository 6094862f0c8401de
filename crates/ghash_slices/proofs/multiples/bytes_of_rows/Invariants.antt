use Rattle.std.proofs.Common.{◌≡◌, ℕ, ◌*◌, ◌<◌, length, get_or}
use Rattle.ghash_slices.proofs.TwoBlocks.{lane_at}
use Rattle.ghash_slices.proofs.multiples.bytes_of_rows.Given as goal

-- the rows before are written
abbrev pub invariant-loop-row : goal.invariant-loop-row
invariant-loop-row l = (length l.bytes ≡ 256) × ((p : ℕ) → p < 16 * l.row → get_or l.bytes p 0 ≡ lane_at l.rows 0 p)
