use Rattle.std.proofs.Common.{ℕ, ◌+◌, ◌*◌, refl, sym, ◌∙◌, ap, arith}
use Rattle.std.specs.Prelude.{bit_xor}
use Rattle.field_base.proofs.PowerLemmas.{one-times}
use Rattle.field_slices.specs.Matrices.{entry_of}
use Rattle.field_slices.proofs.Elimination.{joined-same, joined-other}
use Rattle.field_base.proofs.Places.{numbers-lt}
use Rattle.field_slices.proofs.reduction.bring_nonzero.Goals as goal

pub returns-then-row-rank : goal.returns-then-row-rank
returns-then-row-rank g c =
    let number = g.S.Scalars.number c.args.field in
    let times = g.S.Scalars.product c.args.field in
    let ring = (g.met.S.Scalars.field_law c.args.field).ring in
    let law = g.met.S.Scalars in
    let columns = c.args.shape.columns in
    let old = entry_of number columns c.args.matrix.now in
    let added = c.add_scaled_row.ensures in
    record {
      shape = added.shape;
      entries = λ j inside.
          added.entries j inside
          ∙ ap (bit_xor (old c.args.rank j))
          (ap (λ (s : ℕ). times s (old c.args.row j)) c.one.ensures
          ∙ one-times _ 1 _ ring (old c.args.row j)
          (numbers-lt _ _ (law.range_law c.args.field) c.args.matrix.now (c.args.row * columns + j)))
          ∙ sym (joined-other c.args.rank c.args.row old j c.if-row-rank.true);
      others = added.others;
    }

pub returns-else-row-rank : goal.returns-else-row-rank
returns-else-row-rank g c =
    let number = g.S.Scalars.number c.args.field in
    let old = entry_of number c.args.shape.columns c.args.matrix.now in
    record {
      shape = refl;
      entries = λ j inside. sym (joined-same c.args.rank c.args.row old j (omega arith));
      others = λ i j other inside. refl;
    }
