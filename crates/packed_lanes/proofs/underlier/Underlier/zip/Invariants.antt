use Rattle.std.proofs.Common.{IsTrue}
use Rattle.packed_lanes.specs.Parts.{IsZipped}
use Rattle.packed_lanes.proofs.underlier.Underlier.zip.Given as goal

-- each word so far is what the closure gives of both words of its number
abbrev pub invariant-loop-i : goal.invariant-loop-i
invariant-loop-i g l =
    IsZipped g.Self.Word.Word.BITS g.Self.Word.Word.number (λ x y z. goal.F-post g l.fn.f x y z) l.i (g.Self.Underlier.number l.fn.self)
    (g.Self.Underlier.number l.fn.other) (g.Self.Underlier.number l.row)
    × IsTrue (g.Self.Underlier.is_whole l.row)
