use Rattle.std.proofs.Common.{◌≡◌, ℕ, ◌+◌, ◌++◌, ◌∙◌, ap, arith, drop, replicate}
use Rattle.std.specs.Prelude.{slice_index}
use Rattle.bits_packed.specs.BytesAsBits.{masked_sum}
use Rattle.bits_packed.proofs.MaskedSums.{padded, unpadded}
use Rattle.bits_packed.proofs.byte_sums.sums_of.Goals as goal

pub returns : goal.returns
returns c = λ b inside.
    let front : 0 + b ≡ b = omega arith in
    c.sums_of_block-2.ensures b inside
    ∙ ap (λ (p : ℕ). masked_sum c.args.mask (slice_index (c.copy_from_slice.new.self ++ drop c.args.count (replicate 64 0)) p)) front
    ∙ ap (masked_sum c.args.mask)
    (padded c.args.bytes.now c.copy_from_slice.new.self c.args.start c.args.count b c.requires.few c.requires.inside
    c.copy_from_slice.ensures.after inside)

pub returns-then-count-eq64 : goal.returns-then-count-eq64
returns-then-count-eq64 c = λ b inside. c.sums_of_block.ensures b inside ∙ ap (masked_sum c.args.mask)
    (unpadded c.args.bytes.now c.args.start c.args.count b c.if-count-eq64.true inside)
