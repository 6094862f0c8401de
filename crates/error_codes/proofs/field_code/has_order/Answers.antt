use Rattle.std.proofs.Common.{◌≡◌, ◌+◌, true, false, refl, sym, ◌∙◌, arith}
use Rattle.field_base.specs.Powers.{power}
use Rattle.error_codes.proofs.CodeValues.{next-power}
use Rattle.error_codes.proofs.FieldPowers.{no-one-more, order-of-no-one}
use Rattle.error_codes.proofs.field_code.has_order.Goals as goal

pub loop-d-init : goal.loop-d-init
unfolding power
loop-d-init g c = (refl, λ n some below. absurd (omega (arith, some, below)))

pub loop-d-preserved : goal.loop-d-preserved
loop-d-preserved g c =
    let times = g.F.SymbolField.product c.args.field in
    let next = next-power times c.args.root c.loop-d._d c.loop-d.next c.multiply-next.result c.loop-d.invariant.0
    c.multiply-next.ensures in
    (next, no-one-more times c.args.root c.loop-d._d c.multiply-next.result c.loop-d.invariant.1 next c.if-next-eq1.false)

pub returns-then-next-eq1 : goal.returns-then-next-eq1
returns-then-next-eq1 g c = (
  λ no. let none : false ≡ true = no in absurd (cc),
  λ order.
      let times = g.F.SymbolField.product c.args.field in
      let next = next-power times c.args.root c.loop-d._d c.loop-d.next c.multiply-next.result c.loop-d.invariant.0
      c.multiply-next.ensures in
      absurd (order (c.loop-d._d + 1) (omega arith) (omega (arith, c.loop-d-test.true)) (sym next ∙ c.if-next-eq1.true)),
)

pub returns : goal.returns
returns g c = (
  λ yes.
      order-of-no-one (g.F.SymbolField.product c.args.field) c.args.root c.loop-d._d c.args.count c.loop-d.invariant.1
      (omega (arith, c.loop-d-test.false)),
  λ order. refl,
)
