use Rattle.std.proofs.Common.{◌≡◌, ◌<◌, ◌∷◌, [], ◌∙◌, ap, ap₂, arith, subst}
use Rattle.std.specs.Prelude.{IfSome, Option}
use Rattle.sum_checks.specs.Products.{factors_of}
use Rattle.protocols.proofs.ProductSums.{one_term, some-unless}
use Rattle.protocols.proofs.product_sums.product.Goals as goal

pub unwrap-requires : goal.unwrap-requires
unwrap-requires g c = some-unless c.new.result (λ none. let few : 4 < 2 = c.new.ensures.few.0 none in absurd (omega (arith, few)))

pub returns : goal.returns
returns g c =
    let made : (c.unwrap.result.coefficient ≡ c.ONE.result) × (factors_of c.unwrap.result ≡ 0 ∷ 1 ∷ []) =
    subst (λ (found : Option _). IfSome found (λ term. (term.coefficient ≡ c.ONE.result) × (factors_of term ≡ 0 ∷ 1 ∷ []))) c.unwrap.ensures
    c.new.ensures.made in
    ap₂ one_term
    (ap g.F.Represented.repr made.0 ∙ ap g.F.Represented.repr c.ONE.ensures ∙ g.met.F.PrimeCharacteristicRing.one_law ∙ g.met.F.Field.unit_law) made.1
