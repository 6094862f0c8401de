use Rattle.field_slices.proofs.Triples.{triples_are_near}
use Rattle.field_slices.proofs.near_codes.triples_are_near.Goals as goal

pub returns : goal.returns
returns c = triples_are_near
