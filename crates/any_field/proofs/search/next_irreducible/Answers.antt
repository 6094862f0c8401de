use Rattle.std.proofs.lemmas.Option.{IfSome_then}
use Rattle.any_field.proofs.search.next_irreducible.Goals as goal

pub returns-clause-found : goal.returns-clause-found
returns-clause-found c = IfSome_then c.next.result c.next.ensures.found (λ t both. (both.0, both.1))
