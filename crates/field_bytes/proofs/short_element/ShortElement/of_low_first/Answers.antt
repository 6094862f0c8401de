use Rattle.std.proofs.Common.{◌%◌, ◌^◌, ◌∙◌, ℕ, ap}
use Rattle.field_bytes.proofs.short_element.ShortElement.of_low_first.Goals as goal

pub returns : goal.returns
returns g c = c.of_number.ensures ∙ ap (λ (n : ℕ). n % 2 ^ g.Self.Represented.width) c.number_of_low_first.ensures
