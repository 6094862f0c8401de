use Rattle.std.proofs.Common.{◌≡◌, ℕ, sym, ap, ap₂, arith}
use Rattle.std.specs.Prelude.{bit_xor}
use Rattle.field_slices.specs.Matrices.{entry_of, product_entry}
use Rattle.field_slices.proofs.NextTerms.{sum-more}
use Rattle.field_slices.proofs.MatrixRows.{row_again, row_wanted}
use Rattle.field_slices.proofs.products.write_product_row.Goals as goal
use Rattle.field_base.proofs.BasisSums.{sum_below-none}

pub loop-k-init : goal.loop-k-init
loop-k-init g c =
    let number = g.S.Scalars.number c.args.field in
    let times = g.S.Scalars.product c.args.field in
    let left = entry_of number c.args.inner c.args.left.now in
    let right = entry_of number c.args.shape.columns c.args.right.now in
    row_wanted c.write_zero_row.ensures
    (λ j inside. sym (sum_below-none (λ k. times (left c.args.row k) (right k j))))

pub loop-k-preserved : goal.loop-k-preserved
loop-k-preserved g c =
    let number = g.S.Scalars.number c.args.field in
    let times = g.S.Scalars.product c.args.field in
    let left = entry_of number c.args.inner c.args.left.now in
    let right = entry_of number c.args.shape.columns c.args.right.now in
    let own = entry_of number c.args.shape.columns c.loop-k.target c.args.row in
    let so_far = c.loop-k.invariant in
    row_again so_far
    (λ j inside.
    sum-more (λ k. times (left c.args.row k) (right k j)) c.loop-k.k (own j) _ (so_far.entries j inside)
    (ap (bit_xor (own j)) (ap₂ times c.entry-scalar.ensures (c.row_of.ensures.entries j inside)))) c.add_to_row.ensures

pub returns : goal.returns
returns g c =
    let number = g.S.Scalars.number c.args.field in
    let times = g.S.Scalars.product c.args.field in
    let left = entry_of number c.args.inner c.args.left.now in
    let right = entry_of number c.args.shape.columns c.args.right.now in
    let all : c.loop-k.k ≡ c.args.inner = omega arith in
    row_wanted c.loop-k.invariant (λ j inside. ap (λ (n : ℕ). product_entry times n left right c.args.row j) all)
