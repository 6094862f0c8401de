use Rattle.std.proofs.Common.{◌≡◌, ◌<◌, ◌+◌, ◌*◌, ℕ, IsTrue}
use Rattle.field_base.specs.Chunks.{chunk}
use Rattle.packed_lanes.proofs.divisible.Divisible.part.Given as goal

-- the words so far are those of the part
abbrev pub invariant-loop-k : goal.invariant-loop-k
invariant-loop-k g l =
    ((j : ℕ) → j < l.k
    → chunk g.V.Word.Word.BITS j (g.V.Underlier.number l.part)
    ≡ chunk g.V.Word.Word.BITS (l.i * g.V.Underlier.WORD_COUNT + j) (g.Self.Underlier.number l.self))
    × IsTrue (g.V.Underlier.is_whole l.part)
