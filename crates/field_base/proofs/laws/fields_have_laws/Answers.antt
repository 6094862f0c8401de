use Rattle.field_base.proofs.FieldLemmas.{fields_have_laws}
use Rattle.field_base.proofs.laws.fields_have_laws.Goals as goal

pub returns : goal.returns
returns c = fields_have_laws
