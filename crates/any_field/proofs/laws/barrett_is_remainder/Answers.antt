use Rattle.any_field.proofs.Barrett.{barrett_is_remainder, barrett_by_words}
use Rattle.any_field.proofs.laws.barrett_is_remainder.Goals as goal

pub returns : goal.returns
returns c = record { polynomials = barrett_is_remainder; words = barrett_by_words }
