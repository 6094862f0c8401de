use Rattle.std.proofs.Common.{◌≡◌, ◌≤◌, length}
use Rattle.std.specs.Io.KnownBytes.{Keeps}
use Rattle.tag.specs.Input.{input_failed, input_reader, input_reads}
use Rattle.tag.proofs.input.Input.next.Given as goal

-- interrupted reads take nothing
abbrev pub invariant-reads : goal.invariant-reads
invariant-reads g l = record {
  kept : Keeps (g.R.Read.remaining (input_reader l.fn.self)) (g.R.Read.remaining (input_reader l.self));
  room : length l.piece ≡ length l.fn.piece;
  left : input_reads l.self ≤ input_reads l.fn.self;
  passed : input_failed l.self ≡ input_failed l.fn.self;
}

abbrev pub decreases-reads : goal.decreases-reads
decreases-reads g l = input_reads l.self
