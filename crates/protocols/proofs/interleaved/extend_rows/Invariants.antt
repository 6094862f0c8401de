use Rattle.std.proofs.Common.{◌≡◌, ◌*◌, ◌^◌, ◌<◌, ℕ, length, map, take}
use Rattle.transcripts.specs.Commitments.{row_at}
use Rattle.protocols.specs.Interleaved.{AreCodeWords}
use Rattle.protocols.proofs.interleaved.extend_rows.Given as goal

-- the rows so far are the code words of their messages
abbrev pub invariant-rows : goal.invariant-rows
invariant-rows g l = record {
  size : length l.matrix.items ≡ l.row * (2 ^ l.expansion * 2 ^ l.levels);
  systematic : (i : ℕ) → i < l.row
      → take (2 ^ l.levels) (row_at (2 ^ l.expansion * 2 ^ l.levels) l.matrix.items i) ≡ row_at (2 ^ l.levels) l.messages i;
  code_words : AreCodeWords g.F.Represented.width g.F.Represented.product (λ (i : ℕ). g.F.TowerLevel.basis (g.F.TowerLevel.cantor i)) l.levels
      l.expansion l.row (λ (i : ℕ). map g.F.Represented.repr (row_at (2 ^ l.expansion * 2 ^ l.levels) l.matrix.items i));
}
