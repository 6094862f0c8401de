-- Each of the eight images is the one that the map has.
use Rattle.word_tables.proofs.ImageLemmas.{identity_map, zero_map}
use Rattle.word_tables.proofs.laws.zero_and_identity.Goals as goal

pub returns-clause-zero : goal.returns-clause-zero
returns-clause-zero c = zero_map

pub returns-clause-identity : goal.returns-clause-identity
returns-clause-identity c = identity_map
