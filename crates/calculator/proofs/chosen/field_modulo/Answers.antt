-- The polynomial has the degree, and is the modulus of a field or is not.
use Rattle.std.proofs.Common.{ap, ◌∙◌}
use Rattle.std.specs.Option.{option_map}
use Rattle.any_field.specs.Contexts.{with_top}
use Rattle.calculator.specs.Fields.{polynomials_modulo}
use Rattle.calculator.specs.Number.{wide_value}
use Rattle.calculator.proofs.ModulusLemmas.{modulo-result}
use Rattle.calculator.proofs.chosen.field_modulo.Goals as goal

pub returns-in-Some : goal.returns-in-Some
returns-in-Some c =
    ap (option_map (λ field. polynomials_modulo field.degree (with_top field.degree field.tail))) c.ok.ensures.value
    ∙ modulo-result c.args.degree c.in-Some.tail (wide_value c.args.polynomial) c.new.result c.in-Some.ensures.1 c.in-Some.ensures.0
    c.new.ensures.field c.new.ensures.refused
