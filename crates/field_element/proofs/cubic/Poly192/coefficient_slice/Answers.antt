use Rattle.std.proofs.Common.{◌∙◌, ap}
use Rattle.field_base.specs.Chunks.{chunks}
use Rattle.field_element.specs.Coefficients.{stored_number}
use Rattle.field_element.proofs.cubic.Poly192.coefficient_slice.Goals as goal

pub returns : goal.returns
returns c = c.as_slice.ensures ∙ ap (λ w. chunks 64 3 (stored_number w)) c.stored.ensures
