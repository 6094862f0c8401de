use Rattle.std.proofs.Common.{◌≡◌, ◌+◌, ◌*◌, ◌/◌, ◌%◌, ℕ, arith, subst}
use Rattle.std.specs.Prelude.{bit_xor}
use Rattle.bits_packed.specs.BitMatrices.{IsBitWritten, bit_entry}
use Rattle.bits_packed.proofs.rows.add_entry.Goals as goal

pub returns : goal.returns
returns c =
    let column : 64 * (c.args.column / 64) + c.args.column % 64 ≡ c.args.column = omega arith in
    subst (λ (j : ℕ). IsBitWritten c.args.shape.words c.args.row j
    (bit_xor (bit_entry c.args.shape.words c.args.matrix.now c.args.row j) c.args.value) c.args.matrix.now c.add_bit.new.matrix) column
    c.add_bit.ensures
