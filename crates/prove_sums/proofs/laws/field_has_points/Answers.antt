use Rattle.protocols.proofs.TableOpenings.{vectors-fit}
use Rattle.prove_sums.proofs.laws.field_has_points.Goals as goal

pub returns : goal.returns
returns g c =
    let field = g.F.Represented in
    let level = g.F.TowerLevel in
    record {
      field = g.met.F.Field.field_law;
      vectors = g.met.F.TowerLevel.cantor_image_law;
      fit =
          vectors-fit level.LOG_BITS field.width field.product level.basis level.cantor g.met.F.TowerLevel.bits_law g.met.F.TowerLevel.basis_law
          g.met.F.TowerLevel.cantor_law;
      range = field.range_law;
      same = field.same_law;
      room = g.met.F.RawDataSerializable.room_law;
    }
