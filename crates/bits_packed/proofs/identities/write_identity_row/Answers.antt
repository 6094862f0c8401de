use Rattle.std.proofs.Common.{◌≡◌, ◌+◌, ◌*◌, ◌/◌, ◌%◌, ℕ, arith, subst}
use Rattle.std.specs.Prelude.{bit_xor}
use Rattle.bits_packed.specs.BitMatrices.{IsBitWritten, bit_entry}
use Rattle.bits_packed.proofs.BitIdentities.{identity_row}
use Rattle.bits_packed.proofs.identities.write_identity_row.Goals as goal

pub returns : goal.returns
returns c =
    let words = c.args.shape.words in
    let mid = c.clear_row.new.matrix in
    let column : 64 * (c.args.from + c.args.place / 64) + c.args.place % 64 ≡ 64 * c.args.from + c.args.place = omega arith in
    identity_row words c.args.row c.args.from c.args.place c.args.matrix.now mid c.add_bit.new.matrix c.clear_row.ensures
    (subst (λ (j : ℕ). IsBitWritten words c.args.row j (bit_xor (bit_entry words mid c.args.row j) 1) mid c.add_bit.new.matrix) column
    c.add_bit.ensures)
