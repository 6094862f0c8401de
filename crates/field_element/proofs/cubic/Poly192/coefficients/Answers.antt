use Rattle.std.proofs.Common.{◌∙◌, ap}
use Rattle.field_base.specs.Chunks.{chunks}
use Rattle.field_element.specs.Coefficients.{stored_number}
use Rattle.field_element.proofs.cubic.Poly192.coefficients.Goals as goal

pub returns : goal.returns
returns c = c.array.ensures ∙ ap (λ w. chunks 64 3 (stored_number w)) c.word.ensures
