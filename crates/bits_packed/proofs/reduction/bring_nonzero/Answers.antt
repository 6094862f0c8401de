use Rattle.std.proofs.Common.{refl, sym, ◌∙◌, arith}
use Rattle.field_slices.proofs.Elimination.{joined-same, joined-other}
use Rattle.bits_packed.specs.BitMatrices.{bit_entry}
use Rattle.bits_packed.proofs.reduction.bring_nonzero.Goals as goal

pub returns-then-row-rank : goal.returns-then-row-rank
returns-then-row-rank c =
    let old = bit_entry c.args.shape.words c.args.matrix.now in
    let added = c.add_row.ensures in
    record {
      shape = added.shape;
      entries = λ j inside. added.entries j inside ∙ sym (joined-other c.args.rank c.args.row old j c.if-row-rank.true);
      others = added.others;
    }

pub returns-else-row-rank : goal.returns-else-row-rank
returns-else-row-rank c =
    let old = bit_entry c.args.shape.words c.args.matrix.now in
    record {
      shape = refl;
      entries = λ j inside. sym (joined-same c.args.rank c.args.row old j (omega arith));
      others = λ i j other inside. refl;
    }
