use Rattle.any_field.specs.Contexts.{field_product}
use Rattle.any_field.proofs.RootTables.{values-by-digits}
use Rattle.any_field.proofs.WordRemainders.{context-ring}
use Rattle.any_field.proofs.extension.embeddings.Embedding.images.Goals as goal

pub invariant_of-result-clause-images : goal.invariant_of-result-clause-images
invariant_of-result-clause-images c =
    let s = c.args.self in
    values-by-digits s.target.degree (field_product s.target.degree s.target.tail) s.target.context.wide
    (context-ring s.target.degree s.target.tail s.target.ratio s.target.context) s.root s.source.degree c.digits_of-digits.result
    c.powers_of_root.result c.values_at_digits.result s.source.context.narrow c.digits_of-digits.ensures.enough c.powers_of_root.ensures.length
    c.powers_of_root.ensures.each c.values_at_digits.ensures.values
