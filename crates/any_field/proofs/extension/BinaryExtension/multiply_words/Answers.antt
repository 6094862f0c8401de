use Rattle.std.proofs.Common.{◌≡◌, ℕ, ◌+◌, ◌*◌, ◌∙◌, ap₂, subst, arith}
use Rattle.field_slices.proofs.BothLists.{BothWritten, both_start, both_step, both_end}
use Rattle.any_field.specs.Contexts.{field_product}
use Rattle.any_field.proofs.BlockSteps.{block_start, block_step}
use Rattle.any_field.proofs.extension.BinaryExtension.multiply_words.Goals as goal

pub loop-block-init : goal.loop-block-init
loop-block-init g c = both_start g.W.Reads.number (field_product c.args.self.degree c.args.self.tail) c.args.words.now c.args.others.now

pub loop-lane-init : goal.loop-lane-init
loop-lane-init g c =
    block_start g.W.Reads.number (field_product c.args.self.degree c.args.self.tail) c.args.words.now c.args.others.now c.loop-block.words
    (32 * c.loop-block.block) c.loop-block.invariant

pub loop-lane-preserved : goal.loop-lane-preserved
loop-lane-preserved g c =
    let loop = c.loop-lane in
    block_step g.W.Reads.number (field_product c.args.self.degree c.args.self.tail) c.args.words.now c.args.others.now c.loop-block.words
    (32 * c.loop-block.block) c.loop-block.invariant loop.words loop.lane c.of_stored.result c.loop-block.auto.words (loop.auto.words ∙ c.loop-block.auto.words) c.requires
    (omega arith) (λ d. c.of_stored.ensures ∙ c.products_by_bytes-products.ensures loop.lane (omega arith) d) loop.invariant

pub loop-block-preserved : goal.loop-block-preserved
loop-block-preserved g c =
    let next : 32 * c.loop-block.block + c.loop-lane.lane ≡ 32 * (c.loop-block.block + 1) = omega arith in
    subst (λ (n : ℕ). BothWritten g.W.Reads.number (field_product c.args.self.degree c.args.self.tail) c.args.words.now c.args.others.now c.loop-lane.words n)
    next c.loop-lane.invariant

pub loop-place-init : goal.loop-place-init
loop-place-init g c =
    let all : 32 * c.loop-block.block ≡ 32 * c.byte_blocks-blocks.result = omega arith in
    subst (λ (n : ℕ). BothWritten g.W.Reads.number (field_product c.args.self.degree c.args.self.tail) c.args.words.now c.args.others.now c.loop-block.words n)
    all c.loop-block.invariant

pub loop-place-preserved : goal.loop-place-preserved
loop-place-preserved g c =
    let loop = c.loop-place in
    let times = field_product c.args.self.degree c.args.self.tail in
    both_step g.W.Reads.number times c.args.words.now c.args.others.now loop.words loop.place (loop.auto.words ∙ c.loop-block.auto.words) c.requires loop.invariant
    c.index-words-place.result c.index-others-place.result c.of_stored-in-loop-place.result (omega arith) c.index-words-place.is
    c.index-others-place.is
    (c.of_stored-in-loop-place.ensures ∙ c.multiply-product.ensures ∙ ap₂ times c.stored.ensures c.stored-in-loop-place.ensures)

pub returns-clause-products : goal.returns-clause-products
returns-clause-products g c =
    let loop = c.loop-place in
    both_end g.W.Reads.number (field_product c.args.self.degree c.args.self.tail) c.args.words.now c.args.others.now loop.words loop.place (loop.auto.words ∙ c.loop-block.auto.words)
    c.requires loop.invariant (omega arith)
