use Rattle.std.proofs.Common.{[], arith}
use Rattle.std.proofs.KnownBytes.{Consumes-nil}
use Rattle.tag.proofs.stream.hash_all.Goals as goal

pub pieces-init : goal.pieces-init
pieces-init g c = record { held = ([], Consumes-nil _, c.new-hash.ensures); room = omega arith }
