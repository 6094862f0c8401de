use Rattle.std.proofs.Common.{ℕ, length, map, sym, ◌∙◌, ap, ap₂, arith}
use Rattle.std.specs.Prelude.{bit_xor, slice_index}
use Rattle.field_base.specs.Interpolation.{lagrange}
use Rattle.field_base.proofs.Places.{number-at}
use Rattle.field_slices.proofs.NextTerms.{sum-more}
use Rattle.field_slices.proofs.nodes.interpolate_at_nodes.Goals as goal
use Rattle.field_base.proofs.BasisSums.{sum_below-none}

pub loop-own-init : goal.loop-own-init
loop-own-init g c =
    let field = g.F.Represented in
    ap field.repr c.ZERO-sum.ensures ∙ g.met.F.PrimeCharacteristicRing.zero_law
    ∙ sym (sum_below-none (λ (j : ℕ). field.product (lagrange field.width field.product (λ i. i) (length c.args.values.now) j (field.repr c.args.x))
    (slice_index (map field.repr c.args.values.now) j)))

pub loop-own-preserved : goal.loop-own-preserved
loop-own-preserved g c =
    let field = g.F.Represented in
    let law = g.met.F.Represented in
    let value = c.index-values-own.result in
    sum-more (λ (j : ℕ). field.product (lagrange field.width field.product (λ i. i) (length c.args.values.now) j (field.repr c.args.x))
    (slice_index (map field.repr c.args.values.now) j)) c.loop-own.own (field.repr c.loop-own.sum) (field.repr c.add-sum.result)
    c.loop-own.invariant
    (law.add_law c.loop-own.sum c.mul.result c.add-sum.result c.add-sum.ensures
    ∙ ap (bit_xor (field.repr c.loop-own.sum))
    (law.mul_law c.basis_at.result value c.mul.result c.mul.ensures
    ∙ ap₂ field.product c.basis_at.ensures
    (sym (number-at field.repr c.args.values.now c.loop-own.own value (omega arith) c.index-values-own.is))))
