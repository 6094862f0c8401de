use Rattle.std.proofs.lemmas.Nat.{xor_lt}
use Rattle.field_element.proofs.element.operators.joined.ElementAdd.add.Goals as goal

pub invariant_of-result : goal.invariant_of-result
invariant_of-result g c = record {
  in_range = rw (c.xor.ensures) (xor_lt g.K.Field.FieldKernel.width _ _ c.embed-left.ensures.fits c.embed-right.ensures.fits);
}
