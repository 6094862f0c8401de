use Rattle.std.proofs.Common.{refl}
use Rattle.field_element.specs.lemmas.Coefficients.{same_coefficients}
use Rattle.field_element.proofs.element.cubic_word.CoefficientsHoldsTriple.GENERATOR.Goals as goal

pub returns : goal.returns
returns c = same_coefficients _ _ refl
