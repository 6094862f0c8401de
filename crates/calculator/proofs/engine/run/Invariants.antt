-- What holds between two reads.
use Rattle.std.proofs.Common.{◌≡◌, ◌<◌, ℕ, length, false, List, []}
use Rattle.std.specs.Io.KnownBytes.{Consumes}
use Rattle.calculator.specs.Lines.{IsLine}
use Rattle.calculator.specs.Outbox.{waiting}
use Rattle.calculator.specs.Progress.{AnswersLines}
use Rattle.calculator.specs.Watched.{watched_inner, has_failed, reads_left}
use Rattle.calculator.proofs.engine.run.Given as goal

-- the lines that ended in what was read are answered, and `line` is the rest of what was read
abbrev pub invariant-reads : goal.invariant-reads
invariant-reads g l = record {
  answered : (read : List ℕ) × Consumes (g.R.Read.remaining (watched_inner l.fn.reader)) (g.R.Read.remaining (watched_inner l.reader)) read
      × AnswersLines (g.W.Write.contents (watched_inner l.fn.writer)) (g.W.Write.contents (watched_inner l.writer)) [] (waiting l.outbox) read l.line.items;
  is_line : IsLine l.line.items;
  room : 0 < length l.chunk;
  reader_passed : has_failed l.reader ≡ false;
  writer_passed : has_failed l.writer ≡ false;
}

abbrev pub decreases-reads : goal.decreases-reads
decreases-reads g l = reads_left l.reader
