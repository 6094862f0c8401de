use Rattle.std.proofs.Common.{◌^◌, ℕ, List, length, map, take, ◌∙◌, ap, ap₂, arith}
use Rattle.std.specs.List.{range_with_len}
use Rattle.field_slices.specs.Multilinear.{multilinear_value}
use Rattle.transcripts.specs.Commitments.{row_at}
use Rattle.protocols.specs.CommitmentScheme.{matrix_rows, row_levels}
use Rattle.protocols.proofs.BlockPlaces.{columns-held}
use Rattle.protocols.proofs.joint_tables.row_of_values.Goals as goal

pub split_at-requires : goal.split_at-requires
split_at-requires g c = omega (arith, c.requires.coordinates, c.args.parameters.now.rows_are)

pub power_of_two-size-requires : goal.power_of_two-size-requires
power_of_two-size-requires g c = omega (arith, c.args.parameters.now.few_levels)

pub column_values-requires-clause-few : goal.column_values-requires-clause-few
column_values-requires-clause-few g c =
    let front = c.split_at.ensures.front_len in
    omega (arith, front, c.args.parameters.now.few_rows)

pub column_values-requires-clause-room : goal.column_values-requires-clause-room
column_values-requires-clause-room g c =
    let sizes = c.args.parameters.now in
    columns-held (row_levels sizes.queries sizes.variables) (c.power_of_two-size.ensures.power ∙ ap (λ (k : ℕ). 2 ^ k) sizes.levels_are)
    (c.split_at.ensures.front_len ∙ sizes.rows_are) (ap length c.as_slice.ensures.value ∙ c.requires.count)

pub returns : goal.returns
returns g c =
    let sizes = c.args.parameters.now in
    let field = g.F.Represented in
    let point = c.args.point.now in
    let values : ℕ → List _ → List _ → ℕ → List ℕ =
    λ (h : ℕ) (columns first : List _) (size : ℕ).
    map (λ (p : ℕ). multilinear_value field.product (map field.repr (row_at (2 ^ h) columns p)) (map field.repr first)) (range_with_len 0 size) in
    c.in_ok-row.ensures
    ∙ ap₂ (λ (h : ℕ) (columns : List _). values h columns c.split_at.result.0.now c.power_of_two-size.result)
    (c.split_at.ensures.front_len ∙ sizes.rows_are) c.as_slice.ensures.value
    ∙ ap₂ (λ (first : List _) (size : ℕ). values (matrix_rows sizes.queries sizes.variables) c.args.held.now.columns.items first size)
    (c.split_at.ensures.front ∙ ap (λ (r : ℕ). take r point) sizes.rows_are)
    (c.power_of_two-size.ensures.power ∙ ap (λ (k : ℕ). 2 ^ k) sizes.levels_are)
