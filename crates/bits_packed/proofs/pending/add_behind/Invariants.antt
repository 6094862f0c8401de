use Rattle.std.proofs.Common.{◌≡◌, ◌+◌, ◌-◌, ◌*◌, ◌%◌, length}
use Rattle.std.specs.Prelude.{slice_index}
use Rattle.bits_packed.specs.BitMatrices.{AreWordsAdded}
use Rattle.bits_packed.proofs.WordColumns.{sum_behind}
use Rattle.bits_packed.proofs.pending.add_behind.Given as goal

-- the strips before this one are done
abbrev pub invariant-loop-index : goal.invariant-loop-index
invariant-loop-index l =
    (length l.tables ≡ 2048)
    × AreWordsAdded l.fn.shape.words (l.word + 1) (l.word + 1 + (l.fn.shape.words - (l.word + 1)) % 8 + 8 * l.index) l.fn.shape.rows
    (sum_behind l.fn.shape.rows l.fn.shape.words l.word (slice_index l.places) l.fn.matrix) l.fn.matrix l.matrix
