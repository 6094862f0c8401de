use Rattle.word_carryless.proofs.ClassMasks.{class_is_places}
use Rattle.word_carryless.proofs.laws.class_is_places.Goals as goal

pub returns : goal.returns
returns c = class_is_places
