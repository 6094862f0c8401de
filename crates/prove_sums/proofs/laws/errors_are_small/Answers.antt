use Rattle.prove_sums.proofs.SoundBits.{errors_are_small}
use Rattle.prove_sums.proofs.laws.errors_are_small.Goals as goal

pub returns : goal.returns
returns c =
    let points = c.field_has_points.ensures in
    errors_are_small c.lines_have_one_root.ensures points.field points.vectors points.fit
