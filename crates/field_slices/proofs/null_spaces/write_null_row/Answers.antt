use Rattle.std.proofs.Common.{ℕ, ◌≡◌, subst, arith}
use Rattle.std.specs.Prelude.{slice_index}
use Rattle.field_slices.specs.Matrices.{IsRowWritten, entry_of, null_entry}
use Rattle.field_slices.proofs.NullSpaces.{null_begin, null_step}
use Rattle.field_slices.proofs.null_spaces.write_null_row.Goals as goal

pub loop-k-init : goal.loop-k-init
loop-k-init g c =
    let number = g.S.Scalars.number c.args.field in
    let entries = entry_of number c.args.shape.columns in
    null_begin (slice_index c.args.pivots.now) (entries c.args.reduced.now) c.args.column
    (λ (i : ℕ). entries c.args.basis.now c.args.row) c.write_identity_row.ensures

pub loop-k-preserved : goal.loop-k-preserved
loop-k-preserved g c =
    let number = g.S.Scalars.number c.args.field in
    null_step (slice_index c.args.pivots.now) (entry_of number c.args.shape.columns c.args.reduced.now) c.args.column
    c.entry-value.ensures c.loop-k.invariant c.set_entry.ensures

pub returns : goal.returns
returns g c =
    let number = g.S.Scalars.number c.args.field in
    let columns = c.args.shape.columns in
    let all : c.loop-k.k ≡ c.args.rank = omega arith in
    subst (λ (n : ℕ). IsRowWritten (entry_of number columns) columns c.args.row
    (null_entry (slice_index c.args.pivots.now) (entry_of number columns c.args.reduced.now) c.args.column n) c.args.basis.now
    c.loop-k.basis) all c.loop-k.invariant
