use Rattle.any_field.proofs.IrreducibleFields.{irreducible_gives_field, field_needs_irreducible, irreducible_by_degrees}
use Rattle.any_field.proofs.laws.irreducible_gives_field.Goals as goal

pub returns : goal.returns
returns c = record { field = irreducible_gives_field; only = field_needs_irreducible; by_degrees = irreducible_by_degrees }
