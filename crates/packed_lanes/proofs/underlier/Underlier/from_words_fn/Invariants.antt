use Rattle.std.proofs.Common.{IsTrue}
use Rattle.std.specs.Array.{index_steps}
use Rattle.std.specs.Iterator.{CallableAtEachTurn}
use Rattle.packed_lanes.proofs.WordLists.{Filled}
use Rattle.packed_lanes.proofs.underlier.Underlier.from_words_fn.Given as goal

-- the words from this one on may be asked for, and those so far are those of the calls
abbrev pub invariant-loop-i : goal.invariant-loop-i
invariant-loop-i g l =
    CallableAtEachTurn (index_steps g.Self.Underlier.WORD_COUNT) (λ p i q. (x : _) × goal.F-step g p i x q) (goal.F-pre g) l.i l.f
    × Filled g.Self.Word.Word.BITS g.Self.Word.Word.number (goal.F-step g) l.initial.f l.i (g.Self.Underlier.number l.row) l.f
    × IsTrue (g.Self.Underlier.is_whole l.row)
