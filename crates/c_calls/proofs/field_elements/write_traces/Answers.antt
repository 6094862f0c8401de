use Rattle.std.proofs.Common.{ℕ}
use Rattle.c_calls.specs.Calls.{CallOnEach}
use Rattle.c_calls.specs.ChosenElements.{IsTraceOver}
use Rattle.c_calls.specs.ChosenFields.{chosen_field}
use Rattle.c_calls.proofs.ChosenCalls.{each-given}
use Rattle.c_calls.proofs.SubfieldCalls.{no-subfield, over-subfield}
use Rattle.c_calls.proofs.field_elements.write_traces.Goals as goal

pub returns-in-None : goal.returns-in-None
returns-in-None c = no-subfield c.args.field.named.degree c.args.degree c.in-None.ensures.none

pub returns-in-Some : goal.returns-in-Some
returns-in-Some c =
    let field = chosen_field c.args.field.named in
    let found = c.in-Some.ensures.some in
    over-subfield field.width c.args.degree c.in-Some.found
    (λ (d : ℕ). CallOnEach field (IsTraceOver field.width field.times d) c.args.words.now c.args.traces.now c.write_each.new.results c.write_each.result)
    found.0 found.1 (each-given field c.args.words.now (IsTraceOver field.width field.times c.in-Some.found) found.1 c.write_each.ensures) c.write_each.ensures.kept
