use Rattle.std.proofs.Common.{[], ℕ, List, length, map, drop, get_or, sym, ◌∙◌, ap, arith}
use Rattle.field_slices.specs.Multilinear.{multilinear_value}
use Rattle.field_slices.proofs.PowerLists.{pushed}
use Rattle.protocols.specs.CommitmentScheme.{matrix_rows}
use Rattle.protocols.proofs.HonestTables.{mapped-at}
use Rattle.protocols.proofs.joint_tables.values_of_rows.Goals as goal

pub value_of_row-requires-clause-row : goal.value_of_row-requires-clause-row
value_of_row-requires-clause-row g c =
    let rows = c.args.rows.now in
    let row = c.index-rows-index.result in
    ap length c.as_slice.ensures.value
    ∙ ap length (sym (mapped-at (λ r. r.items) rows c.rows.index row [] (omega arith) c.index-rows-index.is))
    ∙ c.requires.rows c.rows.index (omega arith)

pub rows-preserved : goal.rows-preserved
rows-preserved g c =
    let sizes = c.args.parameters.now in
    let field = g.F.Represented in
    let rows = c.args.rows.now in
    let row = c.index-rows-index.result in
    let others : List ℕ = map field.repr (drop (matrix_rows sizes.queries sizes.variables) c.args.point.now) in
    let value : ℕ → ℕ = λ (i : ℕ). multilinear_value field.product (map field.repr (get_or (map (λ r. r.items) rows) i [])) others in
    ap (map field.repr) c.in_ok-push.ensures.items
    ∙ pushed field.repr value c.rows.values.items c.rows.index c.value_of_row.result c.rows.invariant
    (c.value_of_row.ensures
    ∙ ap (λ (l : List _). multilinear_value field.product (map field.repr l) others)
    (c.as_slice.ensures.value ∙ sym (mapped-at (λ r. r.items) rows c.rows.index row [] (omega arith) c.index-rows-index.is)))
