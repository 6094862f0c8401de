use Rattle.std.proofs.Common.{length}
use Rattle.transcripts.proofs.merkle_paths.+end_of.Given as goal

abbrev pub decreases-end_of : goal.decreases-end_of
decreases-end_of g l = length l.path.now
