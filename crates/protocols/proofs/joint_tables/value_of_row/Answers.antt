use Rattle.std.proofs.Common.{◌≡◌, ◌^◌, ℕ, List, length, map, drop, ◌∙◌, ap, arith}
use Rattle.field_slices.specs.Multilinear.{multilinear_value}
use Rattle.protocols.specs.CommitmentScheme.{row_levels}
use Rattle.protocols.proofs.joint_tables.value_of_row.Goals as goal

pub split_at-requires : goal.split_at-requires
split_at-requires g c = omega (arith, c.requires.coordinates, c.args.parameters.now.rows_are)

pub evaluate_multilinear-requires : goal.evaluate_multilinear-requires
evaluate_multilinear-requires g c =
    let sizes = c.args.parameters.now in
    let behind = c.split_at.ensures.back_len in
    let whole : row_levels sizes.queries sizes.variables ≡ length c.split_at.result.1.now =
    omega (arith, behind, c.requires.coordinates, sizes.rows_are) in
    c.requires.row ∙ ap (λ (b : ℕ). 2 ^ b) whole

pub returns : goal.returns
returns g c =
    let sizes = c.args.parameters.now in
    let field = g.F.Represented in
    c.evaluate_multilinear.ensures
    ∙ ap (λ (p : List _). multilinear_value field.product (map field.repr c.args.row.now) (map field.repr p))
    (c.split_at.ensures.back ∙ ap (λ (r : ℕ). drop r c.args.point.now) sizes.rows_are)
