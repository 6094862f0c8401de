use Rattle.std.proofs.Common.{◌≡◌, ◌+◌, ◌*◌, ◌^◌, ◌<◌, ℕ, get_or, length}
use Rattle.field_base.specs.LinearMaps.{linear_image}
use Rattle.many_words.proofs.word_maps.set_tables.Given as goal

-- the tables of the digits before this one are set
abbrev pub invariant-loop-digit : goal.invariant-loop-digit
invariant-loop-digit g l =
    (length l.tables ≡ 16)
    × ((n v : ℕ) → n < l.digit → v < 16 → (s : _) → g.S.Planes.lane (get_or l.tables n s) v ≡ linear_image l.images (v * 2 ^ (0 + 4 * n)))
