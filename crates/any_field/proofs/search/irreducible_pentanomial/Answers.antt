use Rattle.std.proofs.lemmas.Option.{IfSome_then}
use Rattle.any_field.proofs.search.irreducible_pentanomial.Goals as goal

pub returns-clause-found : goal.returns-clause-found
returns-clause-found c = IfSome_then c.five_terms.result c.five_terms.ensures.found (λ k found. (found.0, found.1, found.2, found.3, found.4))
