use Rattle.std.proofs.Common.{refl, sym, ◌∙◌, ap₂, arith}
use Rattle.field_base.proofs.Places.{number-at}
use Rattle.protocols.proofs.SchemeRuns.{decided}
use Rattle.prove_sums.proofs.verifying.is_product.Goals as goal

pub returns : goal.returns
returns g c =
    let field = g.F.Represented in
    let values = c.args.values.now in
    decided _ _ _ _ _ _ c.eq.ensures (g.met.F.PrimeCharacteristicRing.eq_law c.args.claim c.mul.result) refl
    (g.met.F.Represented.mul_law c.index-values-0.result c.index-values-1.result c.mul.result c.mul.ensures
    ∙ ap₂ field.product (sym (number-at field.repr values 0 c.index-values-0.result (omega (arith, c.requires)) c.index-values-0.is))
    (sym (number-at field.repr values 1 c.index-values-1.result (omega (arith, c.requires)) c.index-values-1.is)))
