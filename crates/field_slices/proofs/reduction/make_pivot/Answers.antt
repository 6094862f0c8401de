use Rattle.std.proofs.Common.{ℕ, ◌∙◌, ap, sym, arith}
use Rattle.field_slices.proofs.Elimination.{joined-nonzero, pivot-written}
use Rattle.field_slices.proofs.MatrixRows.{entries-lt}
use Rattle.field_slices.proofs.reduction.make_pivot.Goals as goal

pub invert-inverse-requires : goal.invert-inverse-requires
invert-inverse-requires g c = λ e.
    joined-nonzero c.requires.rank.column_within c.bring_nonzero.ensures c.requires.nonzero c.requires.first (sym c.entry.ensures ∙ e)

pub returns : goal.returns
returns g c =
    let times = g.S.Scalars.product c.args.field in
    let law = g.met.S.Scalars in
    let own = c.requires.rank in
    let made = pivot-written own.column_within c.bring_nonzero.ensures (law.field_law c.args.field).ring (law.wide_law c.args.field)
    (entries-lt _ _ (law.range_law c.args.field) _) own.row_within c.requires.row
    (ap (λ (x : ℕ). times x (g.S.Scalars.number c.args.field c.invert-inverse.result)) (sym c.entry.ensures) ∙ c.invert-inverse.ensures)
    c.scale_row.ensures (λ i j. c.clear_column.ensures.cleared i j (omega arith)) in
    record {
      shape = c.clear_column.ensures.shape ∙ c.scale_row.ensures.shape ∙ c.bring_nonzero.ensures.shape;
      leading = made.leading;
      alone = made.alone;
      stays = made.stays;
      space = made.space;
    }
