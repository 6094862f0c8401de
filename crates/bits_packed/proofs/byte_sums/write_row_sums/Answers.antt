use Rattle.std.proofs.Common.{◌≡◌, ℕ, ◌+◌, ◌*◌, ◌∙◌, ap, arith, subst}
use Rattle.bits_packed.specs.BytesAsBits.{AreBitsWritten, block_entry, masked_sum}
use Rattle.bits_packed.proofs.BlockRows.{bits-start, bits-step, word-bytes}
use Rattle.bits_packed.proofs.WordRanges.{row_fits}
use Rattle.bits_packed.proofs.byte_sums.write_row_sums.Goals as goal

pub loop-word-init : goal.loop-word-init
loop-word-init c =
    bits-start (c.args.row * c.args.words)
    (λ w b. masked_sum c.args.mask (block_entry c.args.block.width c.args.matrix.now c.args.block.row c.args.block.column c.args.block.columns c.args.row (64 * w + b)))
    c.args.bits.now

pub loop-word-preserved : goal.loop-word-preserved
loop-word-preserved c =
    let block = c.args.block in
    let fits = row_fits c.args.words block.rows c.args.row (c.loop-word.word + 1) c.requires.row (omega arith) in
    bits-step (c.args.row * c.args.words) c.loop-word.word
    (λ w b. masked_sum c.args.mask (block_entry c.args.block.width c.args.matrix.now c.args.block.row c.args.block.column c.args.block.columns c.args.row (64 * w + b)))
    c.args.bits.now c.loop-word.bits c.loop-word.invariant c.sums_of.result (omega (arith, fits, c.requires.room))
    (λ b inside. c.sums_of.ensures b inside ∙ ap (masked_sum c.args.mask)
    (word-bytes block.width block.row block.column block.columns c.args.row c.args.matrix.now c.loop-word.word c.least-done.result
    c.least-count.result c.first_byte-first.result b c.least-done.ensures.is c.least-count.ensures.is c.first_byte-first.ensures.is inside))

pub returns : goal.returns
returns c =
    let all : c.loop-word.word ≡ c.args.words = omega arith in
    subst (λ (n : ℕ). AreBitsWritten (c.args.row * c.args.words) n
    (λ w b. masked_sum c.args.mask (block_entry c.args.block.width c.args.matrix.now c.args.block.row c.args.block.column c.args.block.columns c.args.row (64 * w + b)))
    c.args.bits.now c.loop-word.bits) all c.loop-word.invariant
