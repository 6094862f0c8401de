use Rattle.std.proofs.Common.{sym, ◌∙◌}
use Rattle.field_element.proofs.NumberDigits.{halves_of_64_bits}
use Rattle.field_element.proofs.element.hexadecimal.ElementHasDigits.bits.Goals as goal

pub returns : goal.returns
returns g c = record {
  word =
      halves_of_64_bits (g.R.Stored.number c.args.self.repr) c.split_128-low.result.0 c.split_128-low.result.1
      (sym c.to_u128.ensures ∙ c.split_128-low.ensures);
}
