use Rattle.std.proofs.Common.{◌≡◌, ◌+◌, length}
use Rattle.std.specs.Prelude.{slice_index}
use Rattle.bits_packed.specs.BitMatrices.{HasTables, row_word}
use Rattle.bits_packed.proofs.tables.write_tables.Given as goal

-- the tables before this one are written
abbrev pub invariant-loop-group : goal.invariant-loop-group
invariant-loop-group l =
    (length l.tables ≡ 2048) × HasTables l.strip.width l.group (λ k w. row_word l.inner l.strip.words l.matrix (slice_index l.places k) (l.strip.start + w)) l.tables
