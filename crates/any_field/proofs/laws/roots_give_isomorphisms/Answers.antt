use Rattle.any_field.proofs.RootValues.{roots_give_embeddings, roots_give_isomorphisms, values_are_linear}
use Rattle.any_field.proofs.laws.roots_give_isomorphisms.Goals as goal

pub returns : goal.returns
returns c = record { embeddings = roots_give_embeddings; isomorphisms = roots_give_isomorphisms; linear = values_are_linear }
