use Rattle.any_field.specs.Contexts.{field_product}
use Rattle.any_field.proofs.ScalarMaps.{by-digits}
use Rattle.any_field.proofs.WordRemainders.{context-ring}
use Rattle.any_field.proofs.extension.BinaryExtension.multiples.Goals as goal

pub invariant_of-result-clause-products : goal.invariant_of-result-clause-products
invariant_of-result-clause-products c =
    let s = c.args.self in
    by-digits s.degree (field_product s.degree s.tail) (context-ring s.degree s.tail s.ratio s.context) c.args.scalar c.digits_of-digits.result
    c.multiples_of.result c.values_at_digits.result s.context.narrow c.digits_of-digits.ensures.enough c.multiples_of.ensures.length
    c.multiples_of.ensures.each c.values_at_digits.ensures.values
