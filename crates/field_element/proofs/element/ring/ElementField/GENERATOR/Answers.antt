use Rattle.std.proofs.Common.{◌∙◌}
use Rattle.field_element.specs.lemmas.Element.{same_word}
use Rattle.field_element.proofs.element.ring.ElementField.GENERATOR.Goals as goal

pub returns : goal.returns
returns g c = same_word _ _ (c.GENERATOR.ensures ∙ g.met.K.FieldKernel.generator_is)
