use Rattle.std.specs.Iterator.{IsFinite, size}
use Rattle.std.proofs.Common.{◌+◌, ◌≤◌}
use Rattle.field_bytes.proofs.Taking.{Reading}
use Rattle.field_bytes.proofs.reading.take_word.Given as goal

-- the word has the number of the bytes that the iterator has given
abbrev pub invariant-loop-i : goal.invariant-loop-i
invariant-loop-i g l =
    g.I.Iterator.can_next l.iter
    × Reading g.I.Iterator.next_gives l.initial.iter l.i (g.R.Stored.number l.word) l.iter
    × (IsFinite (g.I.Iterator.remaining l.initial.iter) → IsFinite (g.I.Iterator.remaining l.iter)
    × (size (g.I.Iterator.remaining l.iter) + l.i ≤ size (g.I.Iterator.remaining l.initial.iter)))
