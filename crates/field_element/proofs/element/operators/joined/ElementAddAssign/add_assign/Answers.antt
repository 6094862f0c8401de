use Rattle.std.proofs.lemmas.Nat.{xor_lt}
use Rattle.field_element.proofs.element.operators.joined.ElementAddAssign.add_assign.Goals as goal

pub invariant_of-self : goal.invariant_of-self
invariant_of-self g c = record {
  in_range = rw (c.xor.ensures) (xor_lt g.K.FieldKernel.width _ _ c.args.self.now.in_range c.embed.ensures.fits);
}
