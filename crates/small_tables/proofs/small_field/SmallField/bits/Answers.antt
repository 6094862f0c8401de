use Rattle.std.proofs.Common.{arith}
use Rattle.small_tables.proofs.SmallFields.{space-bits}
use Rattle.small_tables.proofs.small_field.SmallField.bits.Goals as goal

pub invariant_of-result : goal.invariant_of-result
invariant_of-result g c = record {
  narrow = omega arith;
  few = c.requires.few;
  space = space-bits g.F.Represented.width g.F.Represented.product c.args.levels g.met.F.Field.field_law.ring c.requires.whole;
}
