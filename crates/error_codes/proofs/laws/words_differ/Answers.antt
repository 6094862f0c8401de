use Rattle.error_codes.proofs.Checks.{words_differ}
use Rattle.error_codes.proofs.laws.words_differ.Goals as goal

pub returns : goal.returns
returns c = words_differ
