use Rattle.std.proofs.Common.{◌≡◌, ◌+◌, ◌*◌, ◌-◌, arith, length, refl}
use Rattle.field_base.proofs.BasisSums.{sum_below-none}
use Rattle.bits_packed.specs.BitMatrices.{bit_entry}
use Rattle.bits_packed.proofs.SumsProducts.{all-forms, form-more, forms_sum}
use Rattle.bits_packed.proofs.WeightedBits.{block-more, block-named, block-none}
use Rattle.bits_packed.proofs.byte_products.add_block.Goals as goal

pub loop-index-init : goal.loop-index-init
loop-index-init c = (
  refl,
  block-none c.args.block.width c.args.block.row c.args.block.rows c.args.block.column c.args.block.columns
      (forms_sum c.args.forms.now c.args.inner c.args.block.width c.args.left.now c.args.right.now 0) c.args.target.now (λ i j. sum_below-none _),
)

pub loop-index-preserved : goal.loop-index-preserved
loop-index-preserved c =
    let block = c.args.block in
    let n = c.loop-index.index in (
      c.multiply_sums.ensures.room,
      block-more block.width block.row block.rows block.column block.columns
          (forms_sum c.args.forms.now c.args.inner block.width c.args.left.now c.args.right.now n)
          (λ i j. _ * bit_entry 8 c.multiply_sums.new.product (i - block.row) (j - block.column))
          (forms_sum c.args.forms.now c.args.inner block.width c.args.left.now c.args.right.now (n + 1)) c.args.target.now c.loop-index.target
          c.add_weights.new.target c.loop-index.invariant.1 c.add_weights.ensures
          (form-more c.args.forms.now c.args.inner block.width block.row block.rows block.column block.columns n _ _ c.args.left.now c.args.right.now
          c.multiply_sums.new.product refl refl c.multiply_sums.ensures.sums),
    )

pub returns : goal.returns
returns c =
    let all : c.loop-index.index ≡ length c.args.forms.now = omega arith in
    block-named c.args.block.width c.args.block.row c.args.block.rows c.args.block.column c.args.block.columns _ _ c.args.target.now c.loop-index.target
    c.loop-index.invariant.1 (λ i j. all-forms c.args.forms.now c.args.inner c.args.block.width c.loop-index.index i j c.args.left.now c.args.right.now all)
