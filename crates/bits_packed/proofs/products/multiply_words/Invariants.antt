use Rattle.std.proofs.Common.{◌≡◌, ◌*◌, length}
use Rattle.bits_packed.specs.BitMatrices.{partial_word, words_for}
use Rattle.bits_packed.proofs.WordRanges.{WordsSoFar}
use Rattle.bits_packed.proofs.products.multiply_words.Given as goal

-- the strips before this one are done, and the others are 0
abbrev pub invariant-loop-index : goal.invariant-loop-index
invariant-loop-index l =
    (length l.target ≡ length l.fn.target) × (length l.tables ≡ 2048) × WordsSoFar l.words (8 * l.index) l.rows
    (λ i v. partial_word l.inner (words_for l.inner) l.words l.left l.right (64 * words_for l.inner) i v) l.target
