use Rattle.std.proofs.Common.{◌≡◌, ◌+◌, ◌*◌, length}
use Rattle.bits_packed.specs.BitMatrices.{IsStripAdded, partial_word, words_for}
use Rattle.bits_packed.proofs.products.multiply_strip.Given as goal

-- the terms of the rows of the right matrix before this one are added
abbrev pub invariant-loop-pass : goal.invariant-loop-pass
invariant-loop-pass l =
    (length l.tables ≡ 2048) × IsStripAdded l.strip.words l.strip.start l.strip.width l.rows
    (λ i w. partial_word l.inner (words_for l.inner) l.strip.words l.left l.right (64 * l.pass) i (l.strip.start + w)) l.fn.target l.target
