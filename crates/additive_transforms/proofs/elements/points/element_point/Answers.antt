use Rattle.std.proofs.Common.{◌≡◌, ℕ, ◌%◌, ◌∙◌, ap, arith}
use Rattle.additive_transforms.proofs.ElementPoints.{bit_adds, bit_passes, halved, point_ends, point_starts}
use Rattle.additive_transforms.proofs.elements.points.element_point.Goals as goal
use Rattle.additive_transforms.proofs.elements.points.element_point.Goals.{then-rest-eq1, else-rest-eq1}

pub loop-bit-init : goal.loop-bit-init
loop-bit-init g c =
    let level = g.F.TowerLevel in
    (omega arith, point_starts (λ i. level.basis (level.cantor i)) (g.F.Represented.repr c.args.z) c.args.p)

pub loop-bit-preserved : goal.loop-bit-preserved
loop-bit-preserved g c =
    let field = g.F.Represented in
    let level = g.F.TowerLevel in
    let vector : ℕ → ℕ = λ i. level.basis (level.cantor i) in
    let rest = c.loop-bit.rest in (
      halved c.args.p rest c.loop-bit.bit c.loop-bit.invariant.0,
      elim c.if-rest-eq1.branch [
        | then-rest-eq1 w ↦
            ap field.repr w.sum-is
            ∙ bit_adds vector (field.repr c.args.z) c.args.p c.loop-bit.bit rest (field.repr c.loop-bit.sum) c.loop-bit.invariant.0
            c.loop-bit.invariant.1 (field.repr w.add-sum.result) (field.repr w.cantor_basis.result) w.if-rest-eq1.true
            (g.met.F.Represented.add_law c.loop-bit.sum w.cantor_basis.result w.add-sum.result w.add-sum.ensures) w.cantor_basis.ensures
        | else-rest-eq1 w ↦
            let none : rest % 2 ≡ 0 = omega (arith, w.if-rest-eq1.false) in
            ap field.repr w.sum-is
            ∙ bit_passes vector (field.repr c.args.z) c.args.p c.loop-bit.bit rest (field.repr c.loop-bit.sum) c.loop-bit.invariant.0
            c.loop-bit.invariant.1 none
      ],
    )

pub returns : goal.returns
returns g c =
    let field = g.F.Represented in
    let level = g.F.TowerLevel in
    point_ends (λ i. level.basis (level.cantor i)) (field.repr c.args.z) c.args.p field.width c.loop-bit.bit (field.repr c.loop-bit.sum)
    (omega arith) c.loop-bit.invariant.1
