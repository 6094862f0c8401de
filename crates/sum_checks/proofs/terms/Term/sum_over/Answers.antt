use Rattle.std.proofs.Common.{ℕ, List, length, map, ◌∙◌, subst, sym}
use Rattle.sum_checks.specs.Products.{term_product}
use Rattle.sum_checks.proofs.BlockSums.{term-sum}
use Rattle.sum_checks.proofs.TermSteps.{AreBelow}
use Rattle.sum_checks.proofs.terms.Term.sum_over.Goals as goal

pub sum_of_products-requires-clause-inside : goal.sum_of_products-requires-clause-inside
sum_of_products-requires-clause-inside g c =
    subst (λ (ns : List ℕ). AreBelow c.args.count ns) (sym c.factors-factors.ensures.are) c.requires.within

pub returns : goal.returns
returns g c =
    let field = g.F.Represented in
    c.scaled.ensures
    ∙ term-sum field.width field.product g.met.F.Field.field_law.ring c.args.count (length c.args.left.now) (map field.repr c.args.rows.now)
    (term_product field.repr c.args.self.now) _ _ c.factors-factors.ensures.are c.sum_of_products.ensures
