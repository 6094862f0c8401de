-- Guarded calls that are made one after the other.
use Rattle.std.proofs.Common.{Bool, Err, Ok, OnErr, Result, arith}
use Rattle.std.proofs.lemmas.Grind.{common_steps}
use Rattle.transcripts.specs.GuardedAnswers.{GuardedAnswer}
use Rattle.transcripts.specs.declared.error.ChallengerError.{ChallengerError}

-- what holds anyway holds if the result is an error
pub on_err : {T X P : Type 0} (result : Result T X) → P → OnErr result P
on_err (Ok value) holds = tt
on_err (Err error) holds = holds
