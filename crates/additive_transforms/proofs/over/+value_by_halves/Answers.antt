use Rattle.std.proofs.Common.{◌≡◌, ℕ, suc, ◌-◌, map, sym, ◌∙◌, ap, ap₂, subst, arith}
use Rattle.std.specs.Prelude.{bit_xor, slice_index}
use Rattle.field_base.specs.Ring.{IsRing}
use Rattle.ghash_slices.specs.Cantor.{polynomial_value}
use Rattle.additive_transforms.proofs.CantorSums.{value-of-fewer, value-of-first, value-of-halves}
use Rattle.additive_transforms.proofs.over.+value_by_halves.Goals as goal

pub returns-then-levels-eq0 : goal.returns-then-levels-eq0
returns-then-levels-eq0 g t c =
    let field = g.F.Represented in
    let ring = subst (λ (u : ℕ). IsRing field.width u field.product) g.met.F.Field.unit_law field.ring_law in
    c.first_or_zero.ensures
    ∙ sym (value-of-first field.width field.product g.met.F.Field.wide_law ring field.repr (field.repr c.args.x) field.range_law
    c.args.coefficients.now)
    ∙ ap (λ (n : ℕ). polynomial_value field.product n (slice_index (map field.repr c.args.coefficients.now)) (field.repr c.args.x))
    (sym c.if-levels-eq0.true)

pub returns-then-coefficients-level : goal.returns-then-coefficients-level
returns-then-coefficients-level g t c =
    let field = g.F.Represented in
    let ring = subst (λ (u : ℕ). IsRing field.width u field.product) g.met.F.Field.unit_law field.ring_law in
    let next : suc (c.args.levels - 1) ≡ c.args.levels = omega arith in
    c.value_by_halves.ensures
    ∙ sym (value-of-fewer field.width field.product g.met.F.Field.wide_law ring field.repr (field.repr c.args.x) (c.args.levels - 1)
    c.args.coefficients.now (search arith))
    ∙ ap (λ (n : ℕ). polynomial_value field.product n (slice_index (map field.repr c.args.coefficients.now)) (field.repr c.args.x)) next

pub returns : goal.returns
returns g t c =
    let field = g.F.Represented in
    let ring = subst (λ (u : ℕ). IsRing field.width u field.product) g.met.F.Field.unit_law field.ring_law in
    let next : suc (c.args.levels - 1) ≡ c.args.levels = omega arith in
    g.met.F.Represented.add_law c.value_by_halves-2.result c.mul.result c.add.result c.add.ensures
    ∙ ap₂ bit_xor c.value_by_halves-2.ensures
    (g.met.F.Represented.mul_law c.subspace_value.result c.value_by_halves-value.result c.mul.result c.mul.ensures
    ∙ ap₂ field.product c.subspace_value.ensures c.value_by_halves-value.ensures)
    ∙ sym (value-of-halves field.width field.product g.met.F.Field.wide_law ring field.repr (field.repr c.args.x) (c.args.levels - 1)
    c.args.coefficients.now _ _ c.halves_of.ensures.lower c.halves_of.ensures.upper)
    ∙ ap (λ (n : ℕ). polynomial_value field.product n (slice_index (map field.repr c.args.coefficients.now)) (field.repr c.args.x)) next
