use Rattle.small_tables.proofs.SmallFields.{space-over}
use Rattle.small_tables.proofs.small_field.SmallField.of.Goals as goal

pub invariant_of-result : goal.invariant_of-result
invariant_of-result g c =
    let space = g.F.BasedVectorSpace in
    let inner = g.S.Represented in
    record {
      narrow = c.requires.narrow;
      few = c.requires.few;
      space =
          space-over g.F.Represented.width g.F.Represented.product inner.product c.args.width c.args.levels space.DIMENSION inner.width inner.unit
          g.met.F.Field.field_law.ring inner.ring_law c.requires.some c.requires.bits c.requires.dimension
          g.met.F.BasedVectorSpace.space_law g.met.F.BasedVectorSpace.scale_law;
    }
