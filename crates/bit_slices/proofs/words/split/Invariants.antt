use Rattle.std.proofs.Common.{◌≡◌, ◌<◌, ◌+◌, ◌^◌, ℕ, get_or}
use Rattle.field_base.specs.Chunks.{chunk}
use Rattle.bit_slices.specs.Layout.{AreKept}
use Rattle.bit_slices.proofs.words.split.Given as goal

-- the words so far are the digits so far
abbrev pub invariant-loop-digit : goal.invariant-loop-digit
invariant-loop-digit g l =
    AreKept l.start l.digit l.fn.words l.words
    × ((q : ℕ) → q < l.digit → (d : g.row.W.Denot) → g.W.Reads.number (get_or l.words (l.start + q) d) ≡ chunk (2 ^ g.R.TowerWord.LEVEL) q l.bits)
