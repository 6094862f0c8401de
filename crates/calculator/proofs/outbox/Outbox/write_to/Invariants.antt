-- What holds between two writes.
use Rattle.std.proofs.Common.{◌≡◌, ◌-◌, ◌≤◌, false, drop}
use Rattle.calculator.specs.Outbox.{waiting}
use Rattle.calculator.specs.Progress.{TakesFront}
use Rattle.calculator.specs.Watched.{watched_inner, has_failed}
use Rattle.calculator.proofs.outbox.Outbox.write_to.Given as goal

-- the writer has taken the bytes before `taken`
abbrev pub invariant-loop-taken : goal.invariant-loop-taken
invariant-loop-taken g l = record {
  within : l.taken ≤ l.self.len;
  takes : TakesFront (g.W.Write.contents (watched_inner l.fn.writer)) (g.W.Write.contents (watched_inner l.writer)) (waiting l.fn.self) (drop l.taken (waiting l.fn.self));
  passed : has_failed l.writer ≡ false;
}

abbrev pub decreases-loop-taken : goal.decreases-loop-taken
decreases-loop-taken g l = l.self.len - l.taken
