use Rattle.bits_packed.specs.BitMatrices.{sum_of_digits, word_of, words_for}
use Rattle.bits_packed.proofs.WordRanges.{StripSoFar}
use Rattle.bits_packed.proofs.products.add_pass.Given as goal

-- the rows before this one are done
abbrev pub invariant-loop-row : goal.invariant-loop-row
invariant-loop-row l =
    StripSoFar l.strip.words l.strip.start l.strip.width l.row
    (λ i w. sum_of_digits l.tables (word_of (words_for l.inner) l.left i l.pass) 16 w) l.fn.target l.target
