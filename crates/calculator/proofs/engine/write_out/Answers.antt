-- A flush that fails keeps what was written.
use Rattle.std.proofs.Common.{[]}
use Rattle.std.proofs.KnownBytes.{Appends-kept}
use Rattle.calculator.proofs.ProgressLemmas.{TakesFront-whole}
use Rattle.calculator.proofs.engine.write_out.Goals as goal

pub returns-in-Err-clause-err : goal.returns-in-Err-clause-err
returns-in-Err-clause-err g c =
    ([], TakesFront-whole _ _ _ (Appends-kept _ _ _ _ c.in_ok-write_to.ensures.ok c.in-Err.ensures.bytes))
