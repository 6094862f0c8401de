use Rattle.std.proofs.Common.{map, ◌∙◌, ap, ◌∷◌, [], ◌++◌, List}
use Rattle.sum_checks.specs.Products.{term_product}
use Rattle.protocols.proofs.product_sums.terms.Goals as goal

pub returns : goal.returns
returns g c =
    ap (map (term_product g.F.Represented.repr))
    (c.in_ok-push.ensures.items ∙ ap (λ (l : List _). l ++ c.product.result ∷ []) c.new-terms.ensures.items)
    ∙ c.product.ensures
