-- A refused growth writes what waits, and no answer more.
use Rattle.calculator.proofs.ProgressLemmas.{OnErr-from, OnOk-never}
use Rattle.calculator.proofs.engine.end_line.Goals as goal

pub returns-then-is_err-clause-ok : goal.returns-then-is_err-clause-ok
returns-then-is_err-clause-ok g c = OnOk-never _ c.refuse.result c.refuse.ensures.refused

pub returns-then-is_err-clause-empty : goal.returns-then-is_err-clause-empty
returns-then-is_err-clause-empty g c = OnOk-never _ c.refuse.result c.refuse.ensures.refused

pub returns-then-is_err-clause-err : goal.returns-then-is_err-clause-err
returns-then-is_err-clause-err g c = OnErr-from _ c.refuse.result c.refuse.ensures.front
