use Rattle.std.proofs.Common.{◌≡◌, ◌%◌, ◌<◌}
use Rattle.field_base.specs.Powers.{power}
use Rattle.any_field.specs.Contexts.{field_product}
use Rattle.any_field.proofs.extension.BinaryExtension.without_prime.Given as goal

-- what is left divides the exponent, and the power to it is 1
abbrev pub invariant-loop-self : goal.invariant-loop-self
invariant-loop-self l = record {
  some : 0 < l.rest;
  one : power 1 (field_product l.fn.self.degree l.fn.self.tail) l.fn.x l.rest ≡ 1;
  divides : l.fn.exponent % l.rest ≡ 0;
}

abbrev pub decreases-loop-self : goal.decreases-loop-self
decreases-loop-self l = l.rest
