use Rattle.field_element.specs.lemmas.Element.{same_word}
use Rattle.field_element.proofs.element.ring.ElementLaned.ZERO_LANE.Goals as goal

pub returns : goal.returns
returns g c = same_word _ _ c.ZERO.ensures
