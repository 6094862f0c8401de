use Rattle.std.proofs.Common.{◌<◌, subst, sym, ℕ, ap, ap₂, refl, ◌∙◌}
use Rattle.std.specs.Prelude.{bit_xor}
use Rattle.field_slices.proofs.CubeTables.{none-if_empty, some-unless_empty}
use Rattle.sum_checks.proofs.TermSteps.{first-rest}
use Rattle.sum_checks.proofs.ZeroRuns.{eq-more, eq-none}
use Rattle.sum_checks.proofs.zero_check.+eq_at.Goals as goal

pub returns-then-is_empty : goal.returns-then-is_empty
returns-then-is_empty g t c =
    ap g.F.Represented.repr c.ONE.ensures ∙ g.met.F.PrimeCharacteristicRing.one_law ∙ g.met.F.Field.unit_law
    ∙ eq-none g.F.Represented.repr g.F.Represented.product c.args.point.now c.args.other.now
    (none-if_empty _ _ c.is_empty.ensures c.if-is_empty.true)

pub returns : goal.returns
returns g t c =
    let field = g.F.Represented in
    let ring = g.met.F.Represented in
    let x = c.index-point-0.result in
    let y = c.index-other-0.result in
    let one = g.met.F.PrimeCharacteristicRing.one_law ∙ g.met.F.Field.unit_law in
    let some = some-unless_empty _ _ c.is_empty.ensures c.if-is_empty.false in
    ring.mul_law c.add-first.result c.eq_at-others.result c.mul-3.result c.mul-3.ensures
    ∙ ap₂ field.product
    (ring.add_law c.mul.result c.mul-2.result c.add-first.result c.add-first.ensures
    ∙ ap₂ bit_xor (ring.mul_law x y c.mul.result c.mul.ensures)
    (ring.mul_law c.add.result c.add-2.result c.mul-2.result c.mul-2.ensures
    ∙ ap₂ field.product
    (ring.add_law c.ONE-2.result x c.add.result c.add.ensures ∙ ap (λ (n : ℕ). bit_xor n (field.repr x)) (ap field.repr c.ONE-2.ensures ∙ one))
    (ring.add_law c.ONE-3.result y c.add-2.result c.add-2.ensures ∙ ap (λ (n : ℕ). bit_xor n (field.repr y)) (ap field.repr c.ONE-3.ensures ∙ one))))
    c.eq_at-others.ensures
    ∙ eq-more field.repr field.product c.args.point.now _ c.args.other.now _ x y (first-rest c.args.point.now x _ some c.index-point-0.is refl)
    (first-rest c.args.other.now y _ (subst (λ (n : ℕ). 0 < n) (sym c.requires) some) c.index-other-0.is refl)
