-- What holds between two reads.
use Rattle.std.proofs.Common.{◌<◌, ℕ, length, List}
use Rattle.std.specs.Io.KnownBytes.{Consumes}
use Rattle.tag.specs.Input.{input_reader, input_reads}
use Rattle.tag.proofs.stream.hash_all.Given as goal

-- the hash holds what was read
abbrev pub invariant-pieces : goal.invariant-pieces
invariant-pieces g l = record {
  held : (read : List ℕ) × Consumes (g.R.Read.remaining (input_reader l.fn.input)) (g.R.Read.remaining (input_reader l.input)) read × g.H.UniversalHash.holds l.hash l.key read;
  room : 0 < length l.piece;
}

abbrev pub decreases-pieces : goal.decreases-pieces
decreases-pieces g l = input_reads l.input
