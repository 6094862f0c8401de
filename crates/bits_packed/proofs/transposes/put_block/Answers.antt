use Rattle.std.proofs.Common.{◌≡◌, ℕ, ◌+◌, ◌-◌, ap, arith, refl, subst}
use Rattle.std.specs.Prelude.{slice_index}
use Rattle.std.specs.Int.{bit_at}
use Rattle.bits_packed.specs.BitMatrices.{IsBlockWritten}
use Rattle.bits_packed.proofs.BitTransposes.{block_more, block_start}
use Rattle.bits_packed.proofs.transposes.put_block.Goals as goal

pub loop-offset-init : goal.loop-offset-init
loop-offset-init c =
    block_start c.args.shape.rows c.args.shape.words c.args.first c.args.word
    (λ i b. bit_at (slice_index c.args.words.now (i - c.args.first)) b) c.args.target.now

pub loop-offset-preserved : goal.loop-offset-preserved
loop-offset-preserved c =
    let first = c.args.first in
    let offset = c.loop-offset.offset in
    let words = c.args.words.now in
    block_more c.args.shape.rows c.args.shape.words first (first + offset) offset 1 c.args.word
    (λ i b. bit_at (slice_index words (i - first)) b) (λ i b. bit_at (slice_index words offset) b) c.args.target.now c.loop-offset.target
    c.put_word.new.target refl c.requires.word
    (λ i b past below inside short.
    let own : offset ≡ i - first = omega (arith, past, below) in ap (λ (k : ℕ). bit_at (slice_index words k) b) own)
    c.loop-offset.invariant c.put_word.ensures

pub returns : goal.returns
returns c =
    let all : c.loop-offset.offset ≡ 64 = omega arith in
    subst (λ (n : ℕ). IsBlockWritten c.args.shape.rows c.args.shape.words c.args.first n c.args.word
    (λ i b. bit_at (slice_index c.args.words.now (i - c.args.first)) b) c.args.target.now c.loop-offset.target) all c.loop-offset.invariant
