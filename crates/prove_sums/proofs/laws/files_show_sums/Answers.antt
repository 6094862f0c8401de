use Rattle.field_element.specs.Element.{repr_of}
use Rattle.prove_sums.proofs.Soundness.{files_show_sums}
use Rattle.prove_sums.proofs.laws.files_show_sums.Goals as goal

pub returns : goal.returns
returns g c =
    files_show_sums g.H.ByteHasher32.digest repr_of c.field_has_points.ensures c.roots_hold_columns.ensures c.sums_need_luck.ensures
