use Rattle.std.proofs.Common.{◌≡◌, ℕ, ◌*◌, ◌/◌, ◌+◌, ◌%◌, ◌<◌, length, get_or}
use Rattle.ghash_slices.proofs.blocks.interleaved.Given as goal

-- the rows before are woven
abbrev pub invariant-loop-row : goal.invariant-loop-row
invariant-loop-row l =
    (length l.mixed ≡ 256) × ((p : ℕ) → p < 32 * l.row → get_or l.mixed p 0 ≡ get_or l.bytes (p / 2 + 128 * (p % 2)) 0)
