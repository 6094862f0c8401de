use Rattle.std.proofs.Common.{◌≡◌, ℕ, ◌+◌, ◌*◌, ◌/◌, ◌%◌, ◌≤◌, arith, subst}
use Rattle.std.specs.Prelude.{bit_xor, slice_index}
use Rattle.bits_packed.specs.BitMatrices.{IsRangeWritten}
use Rattle.bits_packed.proofs.WordRanges.{added_more, range_start}
use Rattle.bits_packed.proofs.rows.add_range.Goals as goal

pub loop-strip-init : goal.loop-strip-init
loop-strip-init c = range_start

pub loop-strip-preserved : goal.loop-strip-preserved
loop-strip-preserved c =
    let old = c.args.words.now in
    let strip = c.loop-strip.strip in
    let next : 8 * strip + 8 ≡ 8 * (strip + 1) = omega arith in
    let inside : 8 * strip + 8 ≤ c.args.count = omega arith in
    subst (λ (n : ℕ). IsRangeWritten c.args.to n (λ p. bit_xor (slice_index old (c.args.to + p)) (slice_index old (c.args.from + p))) old
    c.add_few.new.words) next
    (added_more c.args.to c.args.from c.args.count (8 * strip) 8 old c.loop-strip.words c.add_few.new.words inside c.requires.apart
    c.loop-strip.invariant c.add_few.ensures)

pub returns : goal.returns
returns c =
    let old = c.args.words.now in
    let count = c.args.count in
    let strips : c.loop-strip.strip ≡ count / 8 = omega arith in
    let all : 8 * (count / 8) + count % 8 ≡ count = omega arith in
    let inside : 8 * (count / 8) + count % 8 ≤ count = omega arith in
    subst (λ (n : ℕ). IsRangeWritten c.args.to n (λ p. bit_xor (slice_index old (c.args.to + p)) (slice_index old (c.args.from + p))) old
    c.add_few-2.new.words) all
    (added_more c.args.to c.args.from count (8 * (count / 8)) (count % 8) old c.loop-strip.words c.add_few-2.new.words inside c.requires.apart
    (subst (λ (n : ℕ). IsRangeWritten c.args.to (8 * n) (λ p. bit_xor (slice_index old (c.args.to + p)) (slice_index old (c.args.from + p)))
    old c.loop-strip.words) strips c.loop-strip.invariant) c.add_few-2.ensures)
