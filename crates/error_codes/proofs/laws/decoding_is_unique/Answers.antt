use Rattle.error_codes.proofs.Decoding.{decoding_is_unique}
use Rattle.error_codes.proofs.laws.decoding_is_unique.Goals as goal

pub returns : goal.returns
returns c = decoding_is_unique
