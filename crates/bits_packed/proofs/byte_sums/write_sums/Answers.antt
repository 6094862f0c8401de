use Rattle.std.proofs.Common.{◌≡◌, ℕ, ◌∙◌, arith, refl, subst}
use Rattle.bits_packed.specs.BytesAsBits.{block_entry, masked_sum}
use Rattle.bits_packed.proofs.BlockRows.{RowsSoFar, rows-end, rows-step}
use Rattle.bits_packed.proofs.byte_sums.write_sums.Goals as goal

pub loop-row-init : goal.loop-row-init
loop-row-init c = (refl, λ i w b below. absurd (omega (arith, below)))

pub loop-row-preserved : goal.loop-row-preserved
loop-row-preserved c = (
  c.write_row_sums.ensures.shape ∙ c.loop-row.invariant.0,
  rows-step c.loop-row.row c.args.words c.args.block.rows
      (λ i j. masked_sum c.args.mask (block_entry c.args.block.width c.args.matrix.now c.args.block.row c.args.block.column c.args.block.columns i j))
      c.loop-row.bits c.write_row_sums.new.bits c.loop-row.invariant.1 c.write_row_sums.ensures,
)

pub returns-clause-sums : goal.returns-clause-sums
returns-clause-sums c =
    let all : c.loop-row.row ≡ c.args.block.rows = omega arith in
    let wanted : ℕ → ℕ → ℕ = λ i j. masked_sum c.args.mask
    (block_entry c.args.block.width c.args.matrix.now c.args.block.row c.args.block.column c.args.block.columns i j) in
    rows-end c.args.words c.args.block.rows wanted c.loop-row.bits
    (subst (λ (n : ℕ). RowsSoFar n c.args.words wanted c.loop-row.bits) all c.loop-row.invariant.1)
