use Rattle.std.proofs.Common.{◌≡◌, ◌<◌, ◌+◌, ◌*◌, ◌^◌, ℕ, get_or}
use Rattle.field_base.specs.Chunks.{chunk}
use Rattle.bit_slices.proofs.words.join.Given as goal

-- the digits so far are the words so far
abbrev pub invariant-loop-digit : goal.invariant-loop-digit
invariant-loop-digit g l =
    (l.bits < 2 ^ (2 ^ g.R.TowerWord.LEVEL * l.digit))
    × ((q : ℕ) → q < l.digit → (d : g.row.W.Denot) → g.W.Reads.number (get_or l.words (l.start + q) d) ≡ chunk (2 ^ g.R.TowerWord.LEVEL) q l.bits)
