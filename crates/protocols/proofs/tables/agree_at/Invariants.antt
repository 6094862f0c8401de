use Rattle.std.proofs.Common.{◌≡◌, ◌<◌, ℕ, length, map, slice_index}
use Rattle.field_slices.specs.Multilinear.{multilinear_value}
use Rattle.transcripts.specs.Commitments.{row_at}
use Rattle.protocols.proofs.tables.agree_at.Given as goal

-- the word agrees at the places so far
abbrev pub invariant-places : goal.invariant-places
invariant-places g l =
    (i : ℕ) → i < l.index → (slice_index l.places i < length l.word)
    × (multilinear_value g.F.Represented.product (map g.F.Represented.repr (row_at l.height l.columns i)) (map g.F.Represented.repr l.point)
    ≡ slice_index (map g.F.Represented.repr l.word) (slice_index l.places i))
