use Rattle.std.proofs.Common.{ℕ, refl, sym, ◌∙◌, ap, arith}
use Rattle.std.specs.Prelude.{bit_xor}
use Rattle.field_slices.specs.Matrices.{entry_of}
use Rattle.field_slices.proofs.Elimination.{cleared-own, cleared-other}
use Rattle.field_slices.proofs.reduction.clear_entry.Goals as goal

pub returns-then-other-row : goal.returns-then-other-row
returns-then-other-row g c =
    let number = g.S.Scalars.number c.args.field in
    let times = g.S.Scalars.product c.args.field in
    let old = entry_of number c.args.shape.columns c.args.matrix.now in
    let added = c.add_scaled_row.ensures in
    record {
      shape = added.shape;
      entries = λ j inside.
          added.entries j inside
          ∙ ap (λ (s : ℕ). bit_xor (old c.args.other j) (times s (old c.args.row j))) c.entry-scalar.ensures
          ∙ sym (cleared-other times c.args.row c.args.column old c.args.other j c.if-other-row.true);
      others = added.others;
    }

pub returns-else-other-row : goal.returns-else-other-row
returns-else-other-row g c =
    let number = g.S.Scalars.number c.args.field in
    let times = g.S.Scalars.product c.args.field in
    let old = entry_of number c.args.shape.columns c.args.matrix.now in
    record {
      shape = refl;
      entries = λ j inside. sym (cleared-own times c.args.row c.args.column old c.args.other j (omega arith));
      others = λ i j other inside. refl;
    }
