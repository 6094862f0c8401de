use Rattle.std.proofs.Common.{◌≡◌, ◌<◌, ◌+◌, ◌-◌, ◌/◌, ◌%◌, ℕ, IsTrue}
use Rattle.field_base.specs.Chunks.{chunk}
use Rattle.packed_lanes.proofs.rows.interleave_words.Given as goal

abbrev pub invariant-loop-i : goal.invariant-loop-i
invariant-loop-i g l = record {
  first : (k : ℕ) → k < l.i → (k / l.block % 2 ≡ 0 → chunk g.U.Word.Word.BITS k (g.U.Underlier.number l.first) ≡ chunk g.U.Word.Word.BITS k (g.U.Underlier.number l.left)) × (k / l.block % 2 ≡ 1 → chunk g.U.Word.Word.BITS k (g.U.Underlier.number l.first) ≡ chunk g.U.Word.Word.BITS (k - l.block) (g.U.Underlier.number l.right));
  second : (k : ℕ) → k < l.i → (k / l.block % 2 ≡ 0 → chunk g.U.Word.Word.BITS k (g.U.Underlier.number l.second) ≡ chunk g.U.Word.Word.BITS (k + l.block) (g.U.Underlier.number l.left)) × (k / l.block % 2 ≡ 1 → chunk g.U.Word.Word.BITS k (g.U.Underlier.number l.second) ≡ chunk g.U.Word.Word.BITS k (g.U.Underlier.number l.right));
  first_whole : IsTrue (g.U.Underlier.is_whole l.first);
  second_whole : IsTrue (g.U.Underlier.is_whole l.second);
}
