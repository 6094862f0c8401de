use Rattle.std.proofs.Common.{◌≡◌, ℕ, ◌+◌, ◌*◌, ◌-◌, ap₂, arith, subst}
use Rattle.bits_packed.specs.BitMatrices.{bit_entry}
use Rattle.bits_packed.specs.BytesAsBits.{IsBlockAdded}
use Rattle.bits_packed.proofs.WeightedBits.{block-start, block-step}
use Rattle.bits_packed.proofs.byte_products.add_weights.Goals as goal

pub loop-row-init : goal.loop-row-init
loop-row-init c =
    block-start c.args.block.width c.args.block.row c.args.block.column c.args.block.columns
    (λ i j. c.args.weight * bit_entry 8 c.args.product.now (i - c.args.block.row) (j - c.args.block.column)) c.args.target.now

pub loop-row-preserved : goal.loop-row-preserved
loop-row-preserved c =
    let block = c.args.block in
    block-step block.width block.row c.loop-row.row block.column block.columns c.first_byte-first.result
    (λ i j. c.args.weight * bit_entry 8 c.args.product.now (i - c.args.block.row) (j - c.args.block.column))
    (λ p. c.args.weight * bit_entry 8 c.args.product.now c.loop-row.row p) c.args.target.now c.loop-row.target c.add_to_row.new.target
    c.requires.block.across c.first_byte-first.ensures.is
    (λ p below.
    let row : c.loop-row.row ≡ block.row + c.loop-row.row - block.row = omega arith in
    let column : p ≡ block.column + p - block.column = omega arith in
    ap₂ (λ (i j : ℕ). c.args.weight * bit_entry 8 c.args.product.now i j) row column)
    c.loop-row.invariant c.add_to_row.ensures

pub returns : goal.returns
returns c =
    let all : c.loop-row.row ≡ c.args.block.rows = omega arith in
    subst (λ (n : ℕ). IsBlockAdded c.args.block.width c.args.block.row n c.args.block.column c.args.block.columns
    (λ i j. c.args.weight * bit_entry 8 c.args.product.now (i - c.args.block.row) (j - c.args.block.column)) c.args.target.now c.loop-row.target)
    all c.loop-row.invariant
