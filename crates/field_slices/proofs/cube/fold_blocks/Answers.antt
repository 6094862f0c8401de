use Rattle.std.proofs.Common.{◌≡◌, ℕ, ◌+◌, ◌-◌, List, ◌∙◌, ap, arith}
use Rattle.std.specs.Prelude.{bit_xor}
use borrow.Rule.Slice.PartMut.{mid_of}
use Rattle.field_slices.specs.Multilinear.{on_line}
use Rattle.field_slices.proofs.FoldedBlocks.{all-folded, block-line, block_more}
use Rattle.field_slices.proofs.cube.fold_blocks.Goals as goal

pub loop-start-preserved : goal.loop-start-preserved
loop-start-preserved g c =
    let field = g.F.Represented in
    let r = field.repr c.args.r in
    let line = on_line field.product r in
    let start = c.loop-start.start in
    let size = c.min-size.result in
    let lower = c.loop-start.lower in
    let upper = c.args.upper.now in
    let taken : start + size - start ≡ size = omega arith in
    let factor = c.add-factor.result in
    let factor_is : field.repr factor ≡ bit_xor field.unit r =
    g.met.F.Represented.add_law c.ONE.result c.args.r factor c.add-factor.ensures
    ∙ ap (λ (n : ℕ). bit_xor n r) (ap field.repr c.ONE.ensures ∙ g.met.F.PrimeCharacteristicRing.one_law) in
    let part = λ (xs : List _). mid_of start (start + size - start) xs in
    let old = c.args.lower.now in (
      omega arith,
      block_more field.repr line old upper lower c.fold_block.new.lower start (start + size - start) size c.loop-start.invariant.1 taken
          (omega arith) (omega arith)
          (c.fold_block.ensures
          ∙ block-line field.width field.unit field.product field.ring_law field.repr field.range_law r (field.repr factor) factor_is
          (part lower) (part upper) (omega arith)),
    )

pub returns : goal.returns
returns g c =
    let field = g.F.Represented in
    let line = on_line field.product (field.repr c.args.r) in
    all-folded field.repr line c.args.lower.now c.args.upper.now c.loop-start.lower c.loop-start.start c.loop-start.auto.lower
    c.requires (omega arith) c.loop-start.invariant.1
