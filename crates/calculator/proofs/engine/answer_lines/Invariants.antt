-- What holds between two lines of a chunk.
use Rattle.std.proofs.Common.{◌≡◌, ◌-◌, ◌≤◌, false, ◌++◌, length, drop}
use Rattle.calculator.specs.Lines.{IsLine}
use Rattle.calculator.specs.Outbox.{waiting}
use Rattle.calculator.specs.Progress.{AnswersLines}
use Rattle.calculator.specs.Watched.{watched_inner, has_failed}
use Rattle.calculator.proofs.engine.answer_lines.Given as goal

-- the lines that end before `start` are answered
abbrev pub invariant-lines : goal.invariant-lines
invariant-lines g l = record {
  within : l.start ≤ length l.chunk;
  answered : AnswersLines (g.W.Write.contents (watched_inner l.fn.writer)) (g.W.Write.contents (watched_inner l.writer)) (waiting l.fn.outbox) (waiting l.outbox)
      (l.fn.line.items ++ l.chunk) (l.line.items ++ drop l.start l.chunk);
  is_line : IsLine l.line.items;
  passed : has_failed l.writer ≡ false;
}

abbrev pub decreases-lines : goal.decreases-lines
decreases-lines g l = length l.chunk - l.start
