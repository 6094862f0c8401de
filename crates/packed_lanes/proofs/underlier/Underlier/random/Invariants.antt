use Rattle.std.proofs.Common.{IsTrue}
use Rattle.packed_lanes.proofs.WordLists.{Filled}
use Rattle.packed_lanes.proofs.underlier.Underlier.random.Given as goal

-- the words so far are those of the draws
abbrev pub invariant-loop-i : goal.invariant-loop-i
invariant-loop-i g l =
    Filled g.Self.Word.Word.BITS g.Self.Word.Word.number (λ s i word t. g.Self.Word.SampleStandard.draws s word t)
    (g.R.Rng.stream l.fn.rng) l.i (g.Self.Underlier.number l.row) (g.R.Rng.stream l.rng)
    × IsTrue (g.Self.Underlier.is_whole l.row)
