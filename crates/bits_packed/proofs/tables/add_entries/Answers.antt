use Rattle.std.proofs.Common.{ℕ, ◌+◌, ap, arith, subst}
use Rattle.std.specs.Prelude.{bit_xor, slice_index}
use Rattle.bits_packed.specs.BitMatrices.{IsRangeWritten, sum_of_digits}
use Rattle.bits_packed.proofs.WordRanges.{range_same}
use Rattle.bits_packed.proofs.tables.add_entries.Goals as goal

pub returns : goal.returns
returns c =
    let old = c.args.target.now in
    let first = c.first_word-first.result in
    let sums = c.sum_of_entries-sums.result in
    let tables = c.args.tables.now in
    subst (λ (f : ℕ). IsRangeWritten f c.args.strip.width (λ p. bit_xor (slice_index old (f + p)) (sum_of_digits tables c.args.word 16 p)) old
    c.add_strip.new.target) c.first_word-first.ensures.is
    (range_same
    (λ p inside. ap (bit_xor (slice_index old (first + p))) (c.sum_of_entries-sums.ensures p (omega (arith, inside, c.requires.strip.narrow))))
    c.add_strip.ensures)
