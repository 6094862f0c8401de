use Rattle.any_field.proofs.Isomorphic.{fields_have_roots, finite_fields_are_isomorphic}
use Rattle.any_field.proofs.laws.finite_fields_are_isomorphic.Goals as goal

pub returns : goal.returns
returns c = record { roots = fields_have_roots; isomorphic = finite_fields_are_isomorphic }
