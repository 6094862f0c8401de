use Rattle.std.proofs.Common.{◌≡◌, ℕ, ◌*◌, ◌<◌, length}
use Rattle.bits_packed.specs.BitMatrices.{bit_entry, entry_within}
use Rattle.bits_packed.proofs.transposes.transpose_words.Given as goal

-- the words before this one are done
abbrev pub invariant-loop-word : goal.invariant-loop-word
invariant-loop-word l =
    (length l.target ≡ length l.fn.target)
    × ((i j : ℕ) → i < l.to.rows → j < 64 * l.word
    → bit_entry l.to.words l.target i j ≡ entry_within l.from.rows (bit_entry l.from.words l.source) j i)
