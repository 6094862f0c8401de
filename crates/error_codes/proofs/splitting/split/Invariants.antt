use Rattle.std.proofs.Common.{◌≡◌, ◌<◌, ◌-◌, ◌+◌, ◌/◌, ◌%◌, ℕ, slice_index, length}
use Rattle.error_codes.specs.Sharing.{share_byte}
use Rattle.error_codes.proofs.splitting.split.Given as goal

-- the bytes of the shares so far
abbrev pub invariant-loop-place : goal.invariant-loop-place
invariant-loop-place l =
    (p : ℕ) → p < l.place → slice_index l.shares p ≡ share_byte l.field (l.needed - 1) l.secret l.draws (p / length l.secret + 1) (p % length l.secret)
