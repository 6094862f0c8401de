use Rattle.std.proofs.Common.{◌^◌, ℕ, length, map, ◌∙◌, ap}
use Rattle.field_slices.specs.Multilinear.{multilinear_value}
use Rattle.field_slices.proofs.PowerLists.{pushed}
use Rattle.transcripts.specs.Commitments.{row_at}
use Rattle.protocols.proofs.tables.column_values.Goals as goal

pub columns-preserved : goal.columns-preserved
columns-preserved g c =
    let repr = g.F.Represented.repr in
    let point = c.args.point.now in
    let leaf : ℕ → ℕ = λ (p : ℕ). multilinear_value g.F.Represented.product (map repr (row_at (2 ^ length point) c.args.columns.now p)) (map repr point) in
    let value = c.evaluate_multilinear-value.result in
    ap (map repr) c.in_ok-push.ensures.items
    ∙ pushed repr leaf c.columns.values.items c.columns.place value c.columns.invariant
    (c.evaluate_multilinear-value.ensures
    ∙ ap (λ l. multilinear_value g.F.Represented.product (map repr l) (map repr point))
    (c.row_of.ensures ∙ ap (λ (n : ℕ). row_at n c.args.columns.now c.columns.place) c.power_of_two-height.ensures.power))
