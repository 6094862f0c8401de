use Rattle.std.proofs.Common.{◌≡◌, ◌*◌, ◌<◌, ℕ, length, slice_index}
use Rattle.transcripts.specs.Commitments.{row_at}
use Rattle.protocols.proofs.tables.columns_at.Given as goal

-- the columns at the places so far
abbrev pub invariant-places : goal.invariant-places
invariant-places g l = record {
  size : length l.chosen.items ≡ l.index * l.height;
  each : (i : ℕ) → i < l.index → row_at l.height l.chosen.items i ≡ row_at l.height l.columns (slice_index l.places i);
}
