use Rattle.error_codes.proofs.Decoding.{decoders_are_right}
use Rattle.error_codes.proofs.laws.decoders_are_right.Goals as goal

pub returns : goal.returns
returns c = decoders_are_right
