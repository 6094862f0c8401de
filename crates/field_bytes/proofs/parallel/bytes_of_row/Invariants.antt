use Rattle.std.proofs.Common.{◌≡◌, ◌<◌, ℕ, length, slice_index}
use Rattle.field_base.specs.Chunks.{chunk}
use Rattle.field_bytes.specs.Parallel.{entry_of_row}
use Rattle.field_bytes.proofs.parallel.bytes_of_row.Given as goal

-- the bytes so far
abbrev pub invariant-loop-j : goal.invariant-loop-j
invariant-loop-j g l =
    (length l.bytes ≡ g.row.N)
    × ((k : ℕ) → k < l.j → slice_index l.bytes k ≡ chunk 8 l.place (entry_of_row g.E.Represented.repr k l.row))
