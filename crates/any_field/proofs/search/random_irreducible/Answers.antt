use Rattle.std.proofs.lemmas.Option.{IfSome_then}
use Rattle.any_field.proofs.search.random_irreducible.Goals as goal

pub returns-clause-found : goal.returns-clause-found
returns-clause-found c = IfSome_then c.drawn.result c.drawn.ensures.found (λ t found. (found.0, found.1, found.2, found.3, found.5))
