use Rattle.std.proofs.Common.{◌*◌, ◌/◌, IsTrue}
use Rattle.packed_lanes.proofs.WideParts.{IsWrittenTo}
use Rattle.packed_lanes.proofs.divisible.Divisible.set_part.Given as goal

-- the words so far are written
abbrev pub invariant-loop-k : goal.invariant-loop-k
invariant-loop-k g l =
    IsWrittenTo g.V.Word.Word.BITS g.V.Underlier.WORD_COUNT
    (g.Self.Word.Word.BITS / g.V.Word.Word.BITS * g.Self.Underlier.WORD_COUNT) l.i l.k (g.V.Underlier.number l.whole)
    (g.Self.Underlier.number l.fn.self) (g.Self.Underlier.number l.self)
    × IsTrue (g.Self.Underlier.is_whole l.self)
