use Rattle.std.proofs.Common.{◌≢◌, List, Ok, ap, sym, ◌∙◌, ℕ}
use Rattle.secret.specs.Records.{SaysRecord}
use Rattle.secret.specs.declared.lines.LineFault.TheVariants.{Memory}
use Rattle.secret.proofs.ShareLines.{any_err, undecoded, unended}
use Rattle.secret.proofs.lines.read_record.Goals as goal

pub returns-in-Err-clause-refused : goal.returns-in-Err-clause-refused
returns-in-Err-clause-refused c =
    undecoded c.args.line.now c.split_at-parts.result.1.now c.in-Err.error c.fault_of.result c.split_at-parts.ensures.back c.fault_of.ensures.1
    c.in-Err.ensures.err

pub returns-in_err-end-clause-refused : goal.returns-in_err-end-clause-refused
returns-in_err-end-clause-refused c =
    any_err (λ fault. fault ≢ Memory → (entry : List ℕ) → SaysRecord c.args.line.now entry → ⊥) c.from_residual.result
    (λ fault other.
    unended c.args.line.now c.split_at-parts.result.1.now c.as_slice.result.now c.split_at-parts.ensures.back
    (c.in-Ok.ensures.ok ∙ ap Ok (sym c.as_slice.ensures.value)) c.in_err-end.ensures.refused)
