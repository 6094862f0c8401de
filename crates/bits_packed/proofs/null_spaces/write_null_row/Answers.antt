use Rattle.std.proofs.Common.{ℕ, ◌≡◌, subst, arith}
use Rattle.std.specs.Prelude.{slice_index}
use Rattle.field_slices.specs.Matrices.{null_entry}
use Rattle.field_slices.proofs.NullSpaces.{null_begin}
use Rattle.bits_packed.specs.BitMatrices.{IsBitRowWritten, bit_entry}
use Rattle.bits_packed.proofs.BitNullRows.{bit_null_step}
use Rattle.bits_packed.proofs.null_spaces.write_null_row.Goals as goal

pub loop-k-init : goal.loop-k-init
loop-k-init c =
    let entries = bit_entry c.args.shape.words in
    null_begin (slice_index c.args.pivots.now) (entries c.args.reduced.now) c.args.column (λ (i : ℕ). entries c.args.basis.now c.args.row)
    c.write_identity_row.ensures

pub loop-k-preserved : goal.loop-k-preserved
loop-k-preserved c =
    let k = c.loop-k.k in
    bit_null_step (slice_index c.args.pivots.now) (bit_entry c.args.shape.words c.args.reduced.now) c.args.column c.args.shape.words c.entry-value.ensures
    (c.requires.inside k (omega arith)) (λ m before. c.requires.rise m k before (omega arith)) (c.requires.free k (omega arith))
    c.loop-k.invariant c.add_entry.ensures

pub returns : goal.returns
returns c =
    let words = c.args.shape.words in
    let all : c.loop-k.k ≡ c.args.rank = omega arith in
    subst (λ (n : ℕ). IsBitRowWritten words c.args.row
    (null_entry (slice_index c.args.pivots.now) (bit_entry words c.args.reduced.now) c.args.column n) c.args.basis.now c.loop-k.basis) all
    c.loop-k.invariant
