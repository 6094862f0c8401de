use Rattle.std.proofs.Common.{◌≡◌, ◌+◌, ◌*◌, ◌^◌, ◌<◌, ◌≤◌, ℕ, length, map, slice_index}
use Rattle.std.specs.Iterator.{IsFinite, size}
use Rattle.field_bytes.proofs.Rows.{ReadingRows}
use Rattle.field_bytes.proofs.parallel_words.take_words.Given as goal

-- the words have the numbers of the columns of the rows that the iterator has given
abbrev pub invariant-loop-i : goal.invariant-loop-i
invariant-loop-i g l =
    g.B.Iterator.can_next l.rows
    × ReadingRows g.B.Iterator.next_gives g.W.Stored.number g.row.N l.initial.rows l.i l.words l.rows
    × (IsFinite (g.B.Iterator.remaining l.initial.rows) → IsFinite (g.B.Iterator.remaining l.rows)
    × (size (g.B.Iterator.remaining l.rows) + l.i ≤ size (g.B.Iterator.remaining l.initial.rows)))
    × (length l.words ≡ g.row.N)

-- the words so far have their byte
abbrev pub invariant-loop-j : goal.invariant-loop-j
invariant-loop-j g l =
    (length l.words ≡ g.row.N)
    × (length l.before ≡ g.row.N)
    × ((k : ℕ) → k < l.j → slice_index (map g.W.Stored.number l.words) k < 2 ^ (8 * (l.i + 1)))
    × ((k : ℕ) → k < l.j → slice_index (map g.W.Stored.number l.words) k ≡ slice_index l.bytes k * 2 ^ (8 * l.i) + slice_index (map g.W.Stored.number l.before) k)
